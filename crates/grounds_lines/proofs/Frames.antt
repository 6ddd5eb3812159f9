-- The lines of steps and conclusions.
--     length-step, length-end, length-item    how long the lines are
--     step-stored, end-stored                 numbers stored one behind the other, and a feed, are the line
--     item-step, item-end                     an item is a step or a conclusion
-- Assumes nothing.
use mathlib.Core.Bool.{Bool, true, false}
use mathlib.Core.List.{List, [], ◌∷◌, ◌++◌, append_assoc}
use mathlib.Core.Path.{◌≡◌, refl, sym, ap, ◌∙◌}
use Prim.Native.Nat.{ℕ, ◌+◌, ◌-◌, ◌*◌, ◌≤◌, ◌<◌}
use native.Mathlib.Numerals.{add-one}
use native.Mathlib.Omega.{arith}
use borrow.Author.Rules.{rules}
use borrow.Author.Tests.{lt-ltb, le-ltb, ltb-true, ltb-false}
use lib.Dec.{ltb}
use lib.ListN.{length, get_or, set, length-append}
use lib.Seq.{sets, length-sets}
use Rattle.meaning.specs.Writing.{hex, frame}
use Rattle.meaning.specs.Grounds.{Conclusion}
use Rattle.meaning.specs.GroundColumns.{conclusion_from}
use Rattle.runs.specs.Limits.{most_literals}
use Rattle.grounds_steps.specs.Steps.{word_in}
use Rattle.grounds_verdict.specs.declared.Conclusions.{Conclusions}
use Rattle.reply_lines.proofs.Stores.{sets-append}
use Rattle.reply_lines.proofs.Lines.{hex-append, length-hex, length-frame}
use Rattle.grounds_lines.specs.Lines.{octets, step_bytes, step_frame, cited_bytes, end_bytes, end_frame, end_of, item_frame, size_at}
use Rattle.grounds_lines.specs.Filling.{ItemRoom}
use Rattle.grounds_lines.proofs.Numbers.{length-octets}

-- ---- how long they are

pub length-step : (x y z : ℕ) → length (step_frame x y z) ≡ 51
unfolding step_frame step_bytes
length-step x y z =
    length-frame (176 ∷ (octets 8 x ++ (octets 8 y ++ octets 8 z)))
    ∙ omega (arith, length-append (octets 8 x) (octets 8 y ++ octets 8 z), length-append (octets 8 y) (octets 8 z), length-octets 8 x, length-octets 8 y, length-octets 8 z)

length-cited : (first difference : ℕ) → length (cited_bytes first difference) ≡ 11
unfolding cited_bytes
length-cited f d =
    length-append (octets 4 f) (octets 4 0 ++ (octets 2 d ++ octets 1 0))
    ∙ omega (arith, length-append (octets 4 0) (octets 2 d ++ octets 1 0), length-append (octets 2 d) (octets 1 0), length-octets 4 f, length-octets 4 0, length-octets 2 d, length-octets 1 0)

pub length-end : (c : Conclusion) → length (end_frame c) ≡ 27
unfolding end_frame end_bytes
length-end c =
    let r : List ℕ = cited_bytes c.first c.difference in
    length-frame (177 ∷ (octets 1 c.literal ++ r))
    ∙ omega (arith, length-append (octets 1 c.literal) r, length-octets 1 c.literal, length-cited c.first c.difference)

-- ---- stored one behind the other

-- some bytes more
more : (l m n p q : List ℕ) (at i k : ℕ) → m ≡ sets l at (hex p) → length p ≡ k → i ≡ at + k * 2 → n ≡ sets m i (hex q) → n ≡ sets l at (hex (p ++ q))
more l m n p q at i k e s h f =
    f ∙ ap (λ (z : List ℕ). sets z i (hex q)) e
    ∙ ap (λ (j : ℕ). sets (sets l at (hex p)) j (hex q)) (omega (arith, length-hex p))
    ∙ sym (sets-append (hex p) (hex q) l at) ∙ ap (sets l at) (sym (hex-append p q))

-- the feed
fed : (l m p : List ℕ) (at i k : ℕ) → m ≡ sets l at (hex p) → length p ≡ k → i ≡ at + k * 2 → set m i 10 ≡ sets l at (frame p)
unfolding frame
fed l m p at i k e s h =
    ap (λ (z : List ℕ). set z i 10) e ∙ ap (λ (j : ℕ). set (sets l at (hex p)) j 10) (omega (arith, length-hex p))
    ∙ sym (sets-append (hex p) (10 ∷ []) l at)

-- two numbers, the second behind the first
pub two-stored : (l a b : List ℕ) (x n y m at : ℕ) → b ≡ sets a (at + n * 2) (hex (octets m y)) → a ≡ sets l at (hex (octets n x))
    → b ≡ sets l at (hex (octets n x ++ octets m y))
two-stored l a b x n y m at eb ea = more l a b (octets n x) (octets m y) at (at + n * 2) n ea (length-octets n x) refl eb

length_two : (x n y m : ℕ) → length (octets n x ++ octets m y) ≡ n + m
length_two x n y m = length-append (octets n x) (octets m y) ∙ omega (arith, length-octets n x, length-octets m y)

pub last_stored : (l a : List ℕ) (x n y m at : ℕ) → a ≡ sets l at (hex (octets n x ++ octets m y))
    → set a (at + (n + m) * 2) 10 ≡ sets l at (frame (octets n x ++ octets m y))
last_stored l a x n y m at ea = fed l a (octets n x ++ octets m y) at (at + (n + m) * 2) (n + m) ea (length_two x n y m) refl

pub last-inside : (l a : List ℕ) (x n y m at : ℕ) → a ≡ sets l at (hex (octets n x ++ octets m y)) → at + (n + m) * 2 < length l
    → at + (n + m) * 2 < length a
last-inside l a x n y m at ea h = omega (arith, ap length ea, length-sets l at (hex (octets n x ++ octets m y)))

-- a line behind some bytes
behind : (l m n p q : List ℕ) (at i k : ℕ) → m ≡ sets l at (hex p) → length p ≡ k → i ≡ at + k * 2 → n ≡ sets m i (frame q) → n ≡ sets l at (frame (p ++ q))
unfolding frame
behind l m n p q at i k e s h f =
    f ∙ ap (λ (z : List ℕ). sets z i (hex q ++ (10 ∷ []))) e
    ∙ ap (λ (j : ℕ). sets (sets l at (hex p)) j (hex q ++ (10 ∷ []))) (omega (arith, length-hex p))
    ∙ sym (sets-append (hex p) (hex q ++ (10 ∷ [])) l at)
    ∙ ap (sets l at) (sym (append_assoc (hex p) (hex q) (10 ∷ [])) ∙ ap (λ (z : List ℕ). z ++ (10 ∷ [])) (sym (hex-append p q)))

pub step-stored : (l a b : List ℕ) (at x y z : ℕ) → b ≡ sets a (at + 18) (frame (octets 8 y ++ octets 8 z)) → a ≡ sets l at (hex (octets 1 176 ++ octets 8 x))
    → b ≡ sets l at (step_frame x y z)
unfolding step_frame step_bytes octets
step-stored l a b at x y z eb ea =
    behind l a b (octets 1 176 ++ octets 8 x) (octets 8 y ++ octets 8 z) at (at + 18) 9 ea (length_two 176 1 x 8) (omega arith) eb
    ∙ ap (λ (r : List ℕ). sets l at (frame r)) (append_assoc (octets 1 176) (octets 8 x) (octets 8 y ++ octets 8 z))

pub cited-stored : (l a b : List ℕ) (at first difference : ℕ) → b ≡ sets a (at + 16) (frame (octets 2 difference ++ octets 1 0))
    → a ≡ sets l at (hex (octets 4 first ++ octets 4 0)) → b ≡ sets l at (frame (cited_bytes first difference))
unfolding cited_bytes
cited-stored l a b at first difference eb ea =
    behind l a b (octets 4 first ++ octets 4 0) (octets 2 difference ++ octets 1 0) at (at + 16) 8 ea (length_two first 4 0 4) (omega arith) eb
    ∙ ap (λ (r : List ℕ). sets l at (frame r)) (append_assoc (octets 4 first) (octets 4 0) (octets 2 difference ++ octets 1 0))

pub end-stored : (l a b : List ℕ) (at literal first difference : ℕ) → b ≡ sets a (at + 4) (frame (cited_bytes first difference))
    → a ≡ sets l at (hex (octets 1 177 ++ octets 1 literal))
    → b ≡ sets l at (end_frame (record { literal = literal; first = first; difference = difference }))
unfolding end_frame end_bytes octets
end-stored l a b at literal first difference eb ea =
    behind l a b (octets 1 177 ++ octets 1 literal) (cited_bytes first difference) at (at + 4) 2 ea (length_two 177 1 literal 1) (omega arith) eb
    ∙ ap (λ (r : List ℕ). sets l at (frame r)) (append_assoc (octets 1 177) (octets 1 literal) (cited_bytes first difference))

pub end-fields : (l m : List ℕ) (at j literal first difference : ℕ) (k : Conclusions)
    → m ≡ sets l at (end_frame (record { literal = literal; first = first; difference = difference }))
    → difference ≡ get_or k.differences j 0 → first ≡ get_or k.firsts j 0
    → literal ≡ j + 1 → m ≡ sets l at (end_frame (end_of k j))
unfolding conclusion_from
end-fields l m at j literal first difference k e ed ef el = rw (← ed, ← ef, ← add-one j, ← el) e

-- ---- items

pub size_step : (n p : ℕ) → p < n → 51 ≡ size_at n p
unfolding size_at
size_step n p h = rw (size_at, lt-ltb p n h) refl

pub size-end : (n p : ℕ) → n ≤ p → 27 ≡ size_at n p
unfolding size_at
size-end n p h = rw (size_at, le-ltb p n h) refl

module _ (steps : List (List ℕ)) (n : ℕ) (d : Conclusions) (p : ℕ) where
  pub step-item : p < n → step_frame (word_in steps p 0) (word_in steps p 1) (word_in steps p 2) ≡ item_frame steps n d p
  unfolding item_frame
  step-item h = rw (item_frame, lt-ltb p n h) refl

  pub end-item : n ≤ p → end_frame (end_of d (p - n)) ≡ item_frame steps n d p
  unfolding item_frame
  end-item h = rw (item_frame, le-ltb p n h) refl

  pub length-item : length (item_frame steps n d p) ≡ size_at n p
  length-item = go (ltb p n) refl
    where
      go : (t : Bool) → ltb p n ≡ t → length (item_frame steps n d p) ≡ size_at n p
      go true e =
          let h : p < n = ltb-true p n e in
          sym (ap length (step-item h)) ∙ length-step (word_in steps p 0) (word_in steps p 1) (word_in steps p 2) ∙ size_step n p h
      go false e =
          let h : n ≤ p = ltb-false p n e in sym (ap length (end-item h)) ∙ length-end (end_of d (p - n)) ∙ size-end n p h

  pub item-step : (l m : List ℕ) (at : ℕ) {x y z : ℕ} → p < n → x ≡ word_in steps p 0 → y ≡ word_in steps p 1 → z ≡ word_in steps p 2
      → m ≡ sets l at (step_frame x y z)
      → m ≡ sets l at (item_frame steps n d p)
  item-step l m at h ex ey ez e = e ∙ rw (ex, ey, ez) (ap (sets l at) (step-item h))

  pub item-end : (l m : List ℕ) (at : ℕ) → n ≤ p → m ≡ sets l at (end_frame (end_of d (p - n))) → m ≡ sets l at (item_frame steps n d p)
  item-end l m at h e = e ∙ ap (sets l at) (end-item h)

module _ (steps : List (List ℕ)) (n p : ℕ) (lent : List ℕ) (at : ℕ) (r : ItemRoom steps n p lent at) where
  pub room-inside : p < n → p < length steps
  room-inside h = omega (arith, r.inside)

  pub room-step : p < n → at + 51 ≤ length lent
  room-step h = omega (arith, r.room, size_step n p h)

  pub room-few : n ≤ p → p - n < most_literals
  room-few h = omega (arith, r.few)

  pub room-end : n ≤ p → at + 27 ≤ length lent
  room-end h = omega (arith, r.room, size-end n p h)

pub ruleset mine = (rules, two-stored, last_stored, last-inside, step-stored, cited-stored, end-stored, end-fields, size_step, size-end, item-step, item-end, room-inside, room-step, room-few, room-end)
