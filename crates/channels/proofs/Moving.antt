-- What a turn of a loop that reads or writes moves.
--     read-more, read-none      a read behind those before it, or one that gave nothing
--     write-more, write-none    a write behind those before it, or one that took nothing
--     moved-few, moved-all      no more are counted than there are, and where none are left all are
--     zero-again, zero-failed   the error without a number asks for no further try, and is a failure
-- Assumes nothing.
use Rattle.std.proofs.Common.{◌≡◌, ℕ, ◌+◌, ◌-◌, ◌≤◌, List, ◌++◌, Option, length, take, drop, pos, sym, refl, ap, ◌∙◌, subst, arith, length-append, drop_at, length-take-le, take-append-drop, append_assoc, le_refl}
use Rattle.std.proofs.lemmas.List.{take_rest}
use Rattle.std.proofs.lemmas.Slice.{take-put_mid_below}
use Rattle.std.proofs.KnownBytes.{Consumes-trans, Consumes-kept, Appends-kept, Appends-trans}
use Rattle.std.specs.Io.KnownBytes.{Consumes, Appends, Keeps}
use Rattle.std.specs.IoError.{os_error_kind}
use Rattle.std.specs.declared.io.ErrorKind.TheVariants.{Interrupted}
use Rattle.channels.specs.declared.output.Stop.TheVariants.{Failed}
use Rattle.channels.specs.Sending.{stop_of}
use borrow.Rule.Slice.PartMut.{put_mid, post_of}
use lib.Seq.{take-add, take-append-le}

-- ---- into a space, from a place on

module _ (a b c : Option (List ℕ)) (space part : List ℕ) (done : ℕ) (within : done ≤ length space) where
  front : take done (put_mid done (length space - done) space part) ≡ take done space
  front = take-put_mid_below _ _ _ _ _ (le_refl _) within

  pub read-none : Consumes a b (take done space) → Keeps b c → Consumes a c (take done (put_mid done (length space - done) space part))
  read-none p q = subst (Consumes a c) (sym front) (Consumes-kept _ _ _ _ p q)

  pub read-more : (n : ℕ) → n ≤ length part → Consumes a b (take done space) → Consumes b c (take n part)
      → Consumes a c (take (done + n) (put_mid done (length space - done) space part))
  read-more n fits p q = subst (Consumes a c) (sym joined) (Consumes-trans _ _ _ _ _ p q)
    where
      behind : take n (drop done (put_mid done (length space - done) space part)) ≡ take n part
      behind =
          ap (take n) (drop_at (take done space) (part ++ post_of done (length space - done) space) done (length-take-le done space within))
          ∙ take-append-le n part (post_of done (length space - done) space) fits

      joined : take (done + n) (put_mid done (length space - done) space part) ≡ take done space ++ take n part
      joined =
          take-add done n (put_mid done (length space - done) space part)
          ∙ ap (λ l. l ++ take n (drop done (put_mid done (length space - done) space part))) front ∙ ap (λ l. take done space ++ l) behind

-- ---- bytes that are left

module _ (a : Option (List ℕ)) (all : List ℕ) where
  abbrev pub Moved : Option (List ℕ) → List ℕ → ℕ → Type 0
  Moved now left count = (done : List ℕ) × (all ≡ done ++ left) × Appends a now done × (count ≡ length done)

  module _ (b c : Option (List ℕ)) (rest : List ℕ) (count : ℕ) where
    pub write-none : Moved b rest count → Keeps b c → Moved c rest count
    write-none (done, e, p, h) q = (done, e, Appends-kept a b c done p q, h)

    pub write-more : (n : ℕ) → n ≤ length rest → Moved b rest count → Appends b c (take n rest) → Moved c (take (length rest - n) (drop n rest)) (count + n)
    write-more n fits (done, e, p, h) q =
        (done ++ take n rest, e ∙ ap (λ l. done ++ l) (sym (take-append-drop n rest)) ∙ sym (append_assoc done (take n rest) (drop n rest)) ∙ ap (λ l. (done ++ take n rest) ++ l) (sym (take_rest rest n)), Appends-trans _ _ _ _ _ p q, omega (arith, h, length-take-le n rest fits, length-append done (take n rest)))

  module _ (now : Option (List ℕ)) (left : List ℕ) (count : ℕ) where
    pub moved-few : (n : ℕ) → n ≤ length left → Moved now left count → count + n ≤ length all
    moved-few n fits (done, e, p, h) = omega (arith, fits, h, ap length e, length-append done left)

    pub moved-all : length left ≡ 0 → Moved now left count → count ≡ length all
    moved-all q (done, e, p, h) = omega (arith, q, h, ap length e, length-append done left)

pub zero-again : os_error_kind (pos 0) ≡ Interrupted → ⊥
unfolding os_error_kind
zero-again e = cc

pub zero-failed : stop_of (os_error_kind (pos 0)) ≡ Failed
unfolding os_error_kind
zero-failed = refl
