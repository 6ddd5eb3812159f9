-- How many steps there can be. The smaller class moves, so the class of an entry that moves at least doubles, and an entry moves at most 8 times.
--     size, roots     how many entries have a label; how many are their own
--     Paid            the steps so far are paid for: 13 by each root that is none any more, and one by each move of an entry
--     paid-start, paid-join, paid-most   at the start, after a join, and the most that there can be: 7,018
-- Assumes nothing.
use mathlib.Core.Bool.{Bool, true, false}
use mathlib.Core.List.{List}
use mathlib.Core.Path.{◌≡◌, refl, ap, ap₂, sym, ◌∙◌, subst}
use mathlib.Core.Logic.{◌⊎◌, inl, inr, ⊎_elim}
use Prim.Native.Nat.{ℕ, zero, suc, ◌+◌, ◌*◌, ◌≤◌, ◌<◌}
use native.Mathlib.Omega.{arith}
use lib.Dec.{eqb, ltb}
use borrow.Author.Tests.{eqb-true, eqb-false, eq-eqb, ne_eqb, ltb-true, ltb-false}
use Rattle.meaning.specs.Closing.{move, total}
use Rattle.meaning.proofs.Progress.{move-cases, total-le, total-lt}
use Rattle.grounds_numbers.specs.Limits.{most_entries}
use Rattle.grounds_laws.specs.Classes.{label_in, size_in}

-- ---- sums

total-same : (n : ℕ) (f g : ℕ → ℕ) → ((r : ℕ) → r < n → f r ≡ g r) → total n f ≡ total n g
unfolding total
total-same zero f g h = refl
total-same (suc n) f g h = ap₂ ◌+◌ (h n (omega arith)) (total-same n f g (λ r l. h r (omega arith)))

total-add : (n : ℕ) (f g : ℕ → ℕ) → total n (λ r. f r + g r) ≡ total n f + total n g
unfolding total
total-add zero f g = refl
total-add (suc n) f g = omega (arith, total-add n f g)

total-eights : (n : ℕ) (f : ℕ → ℕ) → ((r : ℕ) → r < n → f r ≤ 8) → total n f ≤ 8 * n
unfolding total
total-eights zero f h = omega arith
total-eights (suc n) f h = omega (arith, h n (omega arith), total-eights n f (λ r l. h r (omega arith)))

total-ones : (n : ℕ) (f : ℕ → ℕ) → ((r : ℕ) → r < n → f r ≤ 1) → total n f ≤ n
unfolding total
total-ones zero f h = omega arith
total-ones (suc n) f h = omega (arith, h n (omega arith), total-ones n f (λ r l. h r (omega arith)))

total-none : (n : ℕ) → total n (λ r. 0) ≡ 0
unfolding total
total-none zero = refl
total-none (suc n) = omega (arith, total-none n)

total-at : (n : ℕ) (f : ℕ → ℕ) (i : ℕ) → i < n → f i ≤ total n f
unfolding total
total-at zero f i h = absurd (omega arith)
total-at (suc n) f i h = go (eqb i n) refl (total-at n f i)
  where
    go : (b : Bool) → eqb i n ≡ b → (i < n → f i ≤ total n f) → f i ≤ f n + total n f
    go true e ih = rw (eqb-true i n e) (omega arith)
    go false e ih = omega (arith, ih (omega (arith, eqb-false i n e)))

-- ---- sizes

unfoldable pub bit : Bool → ℕ
bit true = 1
bit false = 0

bit-yes : (i j : ℕ) → i ≡ j → bit (eqb i j) ≡ 1
unfolding bit
bit-yes i j e = rw (eq-eqb i j e)

bit-no : (i j : ℕ) → (i ≡ j → ⊥) → bit (eqb i j) ≡ 0
unfolding bit
bit-no i j d = rw (ne_eqb i j d)

bit-cases : (i j : ℕ) → ((i ≡ j) × (bit (eqb i j) ≡ 1)) ⊎ ((i ≡ j → ⊥) × (bit (eqb i j) ≡ 0))
bit-cases i j = go (eqb i j) refl
  where
    go : (b : Bool) → eqb i j ≡ b → ((i ≡ j) × (bit (eqb i j) ≡ 1)) ⊎ ((i ≡ j → ⊥) × (bit (eqb i j) ≡ 0))
    go true e = inl (eqb-true i j e, bit-yes i j (eqb-true i j e))
    go false e = inr (eqb-false i j e, bit-no i j (eqb-false i j e))

bit-one : (i j : ℕ) → bit (eqb i j) ≤ 1
bit-one i j = ⊎_elim (λ c. omega (arith, c.1)) (λ c. omega (arith, c.1)) (bit-cases i j)

unfoldable pub size : ℕ → (ℕ → ℕ) → ℕ → ℕ
size n label p = total n (λ z. bit (eqb (label z) p))

unfoldable pub roots : ℕ → (ℕ → ℕ) → ℕ
roots n label = total n (λ z. bit (eqb (label z) z))

pub size_in_lem : (table : List ℕ) (p n : ℕ) → size_in table p n ≡ size n (label_in table) p
unfolding size size_in total bit
size_in_lem table p zero = refl
size_in_lem table p (suc n) = go (eqb (label_in table n) p) refl (size_in_lem table p n)
  where
    go : (b : Bool) → eqb (label_in table n) p ≡ b → size_in table p n ≡ size n (label_in table) p → size_in table p (suc n) ≡ size (suc n) (label_in table) p
    go true e ih = rw (e, size_in) (omega (arith, ih))
    go false e ih = rw (e, size_in) (omega (arith, ih))

-- ---- doubling

unfoldable pub doubled : ℕ → ℕ
doubled zero = 1
doubled (suc n) = doubled n + doubled n

doubled-differ : (n m : ℕ) → n ≤ m → doubled n ≤ doubled m
unfolding doubled
doubled-differ n zero h = let e : n ≡ 0 = omega arith in rw e (omega arith)
doubled-differ n (suc m) h = go (eqb n (suc m)) refl (doubled-differ n m)
  where
    go : (b : Bool) → eqb n (suc m) ≡ b → (n ≤ m → doubled n ≤ doubled m) → doubled n ≤ doubled m + doubled m
    go true e ih = rw (eqb-true n (suc m) e) (omega arith)
    go false e ih = omega (arith, ih (omega (arith, eqb-false n (suc m) e)))

nine : doubled 9 ≡ 512
unfolding doubled
nine = refl

few-doublings : (n : ℕ) → doubled n ≤ most_entries → n ≤ 8
few-doublings n h = go (ltb 8 n) refl
  where
    go : (b : Bool) → ltb 8 n ≡ b → n ≤ 8
    go true e = absurd (omega (arith, nine, doubled-differ 9 n (omega (arith, ltb-true 8 n e))))
    go false e = ltb-false 8 n e

-- ---- payments

pub record Paid (n : ℕ) (label : ℕ → ℕ) (count : ℕ) : Type 0 where
  pub moves : ℕ → ℕ
  pub doubles : (z : ℕ) → z < n → doubled (moves z) ≤ size n label (label z)
  pub paid : count + 13 * roots n label ≤ 14 * n + total n moves

pub paid-start : (n : ℕ) (label : ℕ → ℕ) (count : ℕ) → count ≤ n → Paid n label count
unfolding size roots doubled
paid-start n label count h =
    record {
      moves = λ z. 0;
      doubles = λ z l. omega (arith, bit-yes (label z) (label z) refl, total-at n (λ i. bit (eqb (label i) (label z))) z l);
      paid = omega (arith, total-none n, total-ones n (λ z. bit (eqb (label z) z)) (λ z l. bit-one (label z) z));
    }

pub paid-most : (n : ℕ) (label : ℕ → ℕ) (count : ℕ) → n ≤ most_entries → Paid n label count → count ≤ 7018
unfolding size
paid-most n label count h w =
    omega (
      arith,
      w.paid,
      total-eights n w.moves
          (λ z l. few-doublings (w.moves z) (omega (arith, w.doubles z l, total-ones n (λ i. bit (eqb (label i) (label z))) (λ i m. bit-one (label i) (label z))))),
    )

-- steps that are not paid for by a join
pub paid-fewer : {n : ℕ} {label : ℕ → ℕ} {count : ℕ} (other : ℕ) → other ≤ count → Paid n label count → Paid n label other
paid-fewer other h w = record { moves = w.moves; doubles = w.doubles; paid = omega (arith, w.paid) }

module _ (n : ℕ) (label label' : ℕ → ℕ) (p q count count' : ℕ) (w : Paid n label count) (moved : (z : ℕ) → z < n → label' z ≡ move q p (label z))
    (apart : p ≡ q → ⊥) (inside : p < n) (at_p : label p ≡ p) (at-q : label q ≡ q) (smaller : size n label p ≤ size n label q)
    (steps : count' ≤ count + 13 + size n label p) where
  after : (z : ℕ) → z < n → ((label z ≡ p) × (label' z ≡ q)) ⊎ ((label z ≡ p → ⊥) × (label' z ≡ label z))
  after z h = ⊎_elim (λ c. inl (c.0, moved z h ∙ c.1)) (λ c. inr (c.0, moved z h ∙ c.1)) (move-cases q p (label z))

  -- another label has no fewer entries
  kept : (r : ℕ) → (r ≡ p → ⊥) → size n label r ≤ size n label' r
  unfolding size
  kept r d = total-le n (λ z. bit (eqb (label z) r)) (λ z. bit (eqb (label' z) r)) (λ z h. go z (after z h) (bit-cases (label z) r))
    where
      go : (z : ℕ) → ((label z ≡ p) × (label' z ≡ q)) ⊎ ((label z ≡ p → ⊥) × (label' z ≡ label z))
          → ((label z ≡ r) × (bit (eqb (label z) r) ≡ 1)) ⊎ ((label z ≡ r → ⊥) × (bit (eqb (label z) r) ≡ 0))
          → bit (eqb (label z) r) ≤ bit (eqb (label' z) r)
      go z (inl c) (inl e) = absurd (d (sym e.0 ∙ c.0))
      go z (inr c) (inl e) = omega (arith, e.1, bit-yes (label' z) r (c.1 ∙ e.0))
      go z c (inr e) = omega (arith, e.1)

  -- and the class that is moved to has both
  grown : size n label p + size n label q ≤ size n label' q
  unfolding size
  grown =
      subst (λ (x : ℕ). x ≤ total n (λ z. bit (eqb (label' z) q))) (total-add n (λ z. bit (eqb (label z) p)) (λ z. bit (eqb (label z) q)))
      (total-le n (λ z. bit (eqb (label z) p) + bit (eqb (label z) q)) (λ z. bit (eqb (label' z) q)) (λ z h. go z (after z h) (bit-cases (label z) q)))
    where
      go : (z : ℕ) → ((label z ≡ p) × (label' z ≡ q)) ⊎ ((label z ≡ p → ⊥) × (label' z ≡ label z))
          → ((label z ≡ q) × (bit (eqb (label z) q) ≡ 1)) ⊎ ((label z ≡ q → ⊥) × (bit (eqb (label z) q) ≡ 0))
          → bit (eqb (label z) p) + bit (eqb (label z) q) ≤ bit (eqb (label' z) q)
      go z (inl c) (inl e) = absurd (apart (sym c.0 ∙ e.0))
      go z (inl c) (inr e) = omega (arith, e.1, bit-one (label z) p, bit-yes (label' z) q c.1)
      go z (inr c) (inl e) = omega (arith, e.1, bit-no (label z) p c.0, bit-yes (label' z) q (c.1 ∙ e.0))
      go z (inr c) (inr e) = omega (arith, e.1, bit-no (label z) p c.0)

  -- the label that has moved is its own no more
  fewer : roots n label' < roots n label
  unfolding roots
  fewer =
      total-lt n (λ z. bit (eqb (label' z) z)) (λ z. bit (eqb (label z) z)) (λ z h. go z (after z h) (bit-cases (label' z) z)) p inside (at (after p inside))
    where
      go : (z : ℕ) → ((label z ≡ p) × (label' z ≡ q)) ⊎ ((label z ≡ p → ⊥) × (label' z ≡ label z))
          → ((label' z ≡ z) × (bit (eqb (label' z) z) ≡ 1)) ⊎ ((label' z ≡ z → ⊥) × (bit (eqb (label' z) z) ≡ 0))
          → bit (eqb (label' z) z) ≤ bit (eqb (label z) z)
      go z (inl c) (inl e) = let y : z ≡ q = sym e.0 ∙ c.1 in absurd (apart (sym c.0 ∙ ap label y ∙ at-q))
      go z (inr c) (inl e) = omega (arith, e.1, bit-yes (label z) z (sym c.1 ∙ e.0))
      go z c (inr e) = omega (arith, e.1)

      at : ((label p ≡ p) × (label' p ≡ q)) ⊎ ((label p ≡ p → ⊥) × (label' p ≡ label p)) → bit (eqb (label' p) p) < bit (eqb (label p) p)
      at (inl c) = omega (arith, bit-yes (label p) p at_p, bit-no (label' p) p (λ e. apart (sym e ∙ c.1)))
      at (inr c) = absurd (c.0 at_p)

  pub paid-join : Paid n label' count'
  unfolding doubled size
  paid-join =
      record {
        moves = λ z. w.moves z + bit (eqb (label z) p);
        doubles = λ z h. go z h (after z h);
        paid = omega (arith, w.paid, fewer, steps, sum);
      }
    where
      sum : total n (λ z. w.moves z + bit (eqb (label z) p)) ≡ total n w.moves + size n label p
      sum = total-add n w.moves (λ z. bit (eqb (label z) p)) ∙ ap (λ (x : ℕ). total n w.moves + x) sized
        where
          sized : total n (λ z. bit (eqb (label z) p)) ≡ size n label p
          sized = refl

      go : (z : ℕ) → z < n → ((label z ≡ p) × (label' z ≡ q)) ⊎ ((label z ≡ p → ⊥) × (label' z ≡ label z))
          → doubled (w.moves z + bit (eqb (label z) p)) ≤ size n label' (label' z)
      go z h (inl c) =
          let e : w.moves z + bit (eqb (label z) p) ≡ suc (w.moves z) = omega (arith, bit-yes (label z) p c.0) in
          rw (e, c.1) (omega (arith, grown, smaller, subst (λ (x : ℕ). doubled (w.moves z) ≤ size n label x) c.0 (w.doubles z h)))
      go z h (inr c) =
          let e : w.moves z + bit (eqb (label z) p) ≡ w.moves z = omega (arith, bit-no (label z) p c.0) in
          rw (e, c.1) (omega (arith, w.doubles z h, kept (label z) c.0))
