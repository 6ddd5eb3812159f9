-- Chains of context rows: how they are built, and that a walk along a chain finds what a walk along all rows finds.
--     linked-start, linked-back       no row yet, and one row more in front
--     Seeking, seeking-start .. seeking-ends      nothing was found before row i; the life of a walk along a chain
-- Assumes nothing.
use mathlib.Core.Bool.{Bool, true, false, ◌&&◌}
use mathlib.Core.List.{List, ◌∷◌, map}
use mathlib.Core.Path.{◌≡◌, refl, sym, ap, ◌∙◌, subst}
use Prim.Native.Nat.{ℕ, zero, suc, ◌+◌, ◌-◌, ◌%◌, ◌≤◌, ◌<◌}
use native.Mathlib.Decide.{ℕ_discrete}
use native.Mathlib.Omega.{arith}
use lib.Dec.{eqb, ltb}
use borrow.Author.Tests.{ne_eqb, ltb-true, ltb-false}
use native.Mathlib.Numerals.{add-one}
use lib.ListN.{length, get_or, set, drop, replicate, get_or-replicate, drop_of_length-le}
use lib.Seq.{get_or-set_same, get_or-set_other, drop-cons}
use Rattle.meaning.specs.Context.{Row, row₀}
use Rattle.meaning.specs.ByTable.{same_list}
use Rattle.meaning.specs.Columns.{args_at, row_from, rows_from}
use Rattle.meaning.specs.Values.{held}
use Rattle.meaning.proofs.Built.{length-rows, rows-at}
use Rattle.std.specs.Prelude.{Some, None}
use Rattle.values.specs.Chains.{chain_of, Gap, Linked, Chained, Looked}

pub linked-start : (symbols : List ℕ) (n : ℕ) (first next : List ℕ) → n ≤ 255 → first ≡ replicate 256 255 → Linked symbols n n first next
linked-start symbols n first next h e =
    record {
      heads = λ b l.
          let q : get_or first b 0 ≡ 255 = rw e (get_or-replicate 256 b 255 0 l) in
          record { passed = λ r p s t f. absurd (omega arith); lands = λ t. absurd (omega (arith, q)); rises = omega (arith, q) };
      links = λ r p s. absurd (omega arith);
    }

module _ (symbols : List ℕ) (n i : ℕ) (first next : List ℕ) (w : Linked symbols n (i + 1) first next) where
  linked-head : (b j : ℕ) → (chain_of symbols i ≡ b → ⊥) → Gap symbols n b (i + 1) j → Gap symbols n b i j
  linked-head b j ne g =
      record {
        passed = λ r p s t f. go r p s t f (ℕ_discrete r i);
        lands = g.lands;
        rises = omega (arith, g.rises);
      }
    where
      go : (r : ℕ) → i ≤ r → r < n → r < j → chain_of symbols r ≡ b → Dec (r ≡ i) → ⊥
      go r p s t f (yes q) = ne (ap (chain_of symbols) (sym q) ∙ f)
      go r p s t f (no q) = g.passed r (omega arith) s t f

  -- row i goes in front of its chain
  pub linked-more : (b : ℕ) → i < n → length first ≡ 256 → length next ≡ 255 → n ≤ 255 → b < 256 → b ≡ chain_of symbols i
      → Linked symbols n i (set first b i) (set next i (get_or first b 0))
  linked-more b h lf ln few bl e = record { heads = λ c l. head c l (ℕ_discrete c b); links = λ r p s. link r p s (ℕ_discrete r i) }
    where
      head : (c : ℕ) → c < 256 → Dec (c ≡ b) → Gap symbols n c i (get_or (set first b i) c 0)
      head c l (yes q) =
          let z : get_or (set first b i) c 0 ≡ i = ap (λ x. get_or (set first b i) x 0) q ∙ get_or-set_same first b i 0 (omega arith) in
          record { passed = λ r p s t f. absurd (omega (arith, z)); lands = λ t. ap (chain_of symbols) z ∙ sym e ∙ sym q; rises = omega (arith, z) }
      head c l (no q) =
          rw (get_or-set_other first b c i 0 q) (linked-head c (get_or first c 0) (λ f. q (sym (e ∙ f))) (w.heads c l))

      link : (r : ℕ) → i ≤ r → r < n → Dec (r ≡ i) → Gap symbols n (chain_of symbols r) (r + 1) (get_or (set next i (get_or first b 0)) r 0)
      link r p s (yes q) =
          rw (q, get_or-set_same next i (get_or first b 0) 0 (omega arith), ← e) (w.heads b bl)
      link r p s (no q) = rw (get_or-set_other next i r (get_or first b 0) 0 q) (w.links r (omega arith) s)

-- the same as a loop that goes down says it
pub linked-back : (symbols : List ℕ) (n j b : ℕ) (first next : List ℕ) → Linked symbols n j first next → 0 < j → j ≤ n → n ≤ 255 → length first ≡ 256 → length next ≡ 255
    → b ≡ chain_of symbols (j - 1) → b < 256 → Linked symbols n (j - 1) (set first b (j - 1)) (set next (j - 1) (get_or first b 0))
linked-back symbols n j b first next w p l few lf ln e bl =
    let q : j ≡ j - 1 + 1 = omega arith in
    linked-more symbols n (j - 1) first next (subst (λ x. Linked symbols n x first next) q w) b (omega arith) lf ln few bl e

-- ---- the walk

module _ (symbols counts args : List ℕ) (n : ℕ) (rep : ℕ → ℕ) (f : ℕ) (ns : List ℕ) where
  abbrev rows : List Row
  rows = rows_from symbols counts args n

  -- whether row i is the one
  abbrev fits : ℕ → Bool
  fits i = eqb f (get_or symbols i 0) && same_list ns (map rep (args_at counts args i))

  rows-length : length rows ≡ n
  rows-length = length-rows symbols counts args n

  rows-from : (i : ℕ) → i < n → drop i rows ≡ row_from symbols counts args i ∷ drop (suc i) rows
  rows-from i h =
      drop-cons rows i row₀ (omega (arith, rows-length))
      ∙ ap (◌∷ drop (suc i) rows) (rows-at symbols counts args n i h)

  held-hit : (d i : ℕ) → i < n → fits i ≡ true → held rep f ns d i (drop i rows) ≡ rep i
  unfolding held
  held-hit d i h e = rw (rows-from i h, held, e)

  held-miss : (d i : ℕ) → i < n → fits i ≡ false → held rep f ns d i (drop i rows) ≡ held rep f ns d (suc i) (drop (suc i) rows)
  unfolding held
  held-miss d i h e = rw (rows-from i h, held, e)

  held-past : (d i : ℕ) → n ≤ i → held rep f ns d i (drop i rows) ≡ d
  unfolding held
  held-past d i h = let l : length rows ≤ i = omega (arith, rows-length) in rw (drop_of_length-le rows l)

  other-symbol : (i : ℕ) → (chain_of symbols i ≡ f % 256 → ⊥) → fits i ≡ false
  other-symbol i ne = rw (ne_eqb f (get_or symbols i 0) (λ e. ne (ap (λ x. x % 256) (sym e))))

  held-over : (d m i : ℕ) → ((r : ℕ) → i ≤ r → r < n → r < i + m → chain_of symbols r ≡ f % 256 → ⊥)
      → held rep f ns d i (drop i rows) ≡ held rep f ns d (i + m) (drop (i + m) rows)
  held-over d zero i g = let e : i + 0 ≡ i = omega arith in rw e
  held-over d (suc m) i g = go (ltb i n) refl (held-over d m (suc i) (λ r p s t. g r (omega arith) s (omega arith)))
    where
      go : (b : Bool) → ltb i n ≡ b → held rep f ns d (suc i) (drop (suc i) rows) ≡ held rep f ns d (suc i + m) (drop (suc i + m) rows)
          → held rep f ns d i (drop i rows) ≡ held rep f ns d (i + suc m) (drop (i + suc m) rows)
      go true b ih =
          let h : i < n = ltb-true i n b in
          let e : suc i + m ≡ i + suc m = omega arith in
          held-miss d i h (other-symbol i (g i (omega arith) h (omega arith))) ∙ rw e at ih
      go false b ih = let h : n ≤ i = ltb-false i n b in held-past d i h ∙ sym (held-past d (i + suc m) (omega arith))

  held-gap : (d i j : ℕ) → Gap symbols n (f % 256) i j → held rep f ns d i (drop i rows) ≡ held rep f ns d j (drop j rows)
  held-gap d i j g =
      let e : i + (j - i) ≡ j = omega (arith, g.rises) in
      rw e at (held-over d (j - i) i (λ r p s t. g.passed r p s (omega (arith, g.rises))))

  -- what is looked for is not before row i, and row i is in its chain
  pub record Seeking (i : ℕ) : Type 0 where
    pub same : (d : ℕ) → held rep f ns d 0 rows ≡ held rep f ns d i (drop i rows)
    pub on : i < n → chain_of symbols i ≡ f % 256

  pub seeking-start : (first next : List ℕ) (b i : ℕ) → Chained symbols n first next → b ≡ f % 256 → i ≡ get_or first b 0 → b < 256 → Seeking i
  seeking-start first next b i w e q l =
      let g : Gap symbols n (f % 256) 0 i = subst (λ x. Gap symbols n x 0 i) e (rw q (w.heads b l)) in record { same = λ d. held-gap d 0 i g; on = g.lands }

  module _ (i : ℕ) (s : Seeking i) where
    pub seeking-next : (first next : List ℕ) (b : Bool) (j : ℕ) → Chained symbols n first next → i < n → b ≡ fits i → b ≡ false → j ≡ get_or next i 0 → Seeking j
    seeking-next first next b j w h e q p =
        let g : Gap symbols n (f % 256) (suc i) j = rw (← add-one i, p) (subst (λ x. Gap symbols n x (i + 1) (get_or next i 0)) (s.on h) (w.links i (omega arith) h)) in
        record { same = λ d. s.same d ∙ held-miss d i h (sym e ∙ q) ∙ held-gap d (suc i) j g; on = g.lands }

    pub seeking-found : (b : Bool) (r : ℕ) → i < n → b ≡ fits i → b ≡ true → r ≡ rep i → Looked rep f ns rows (Some r)
    seeking-found b r h e q p =
        record { found = λ v z d. let w : v ≡ r = cc in w ∙ p ∙ sym (s.same d ∙ held-hit d i h (sym e ∙ q)); absent = λ z. cc }

    pub seeking-ends : n ≤ i → Looked rep f ns rows None
    seeking-ends h = record { found = λ v z. cc; absent = λ _ d. sym (s.same d ∙ held-past d i h) }
