-- One merge of two classes: it keeps what a table of representatives has to be on the way, and the sum of the representatives falls.
-- All is said of the representatives as a function on the rows, so that a list and an array can both use it.
-- Assumes nothing.
use mathlib.Core.Bool.{Bool, true, false}
use mathlib.Core.List.{List}
use mathlib.Core.Path.{◌≡◌, refl, sym, ◌∙◌, subst}
use mathlib.Core.Logic.{◌⊎◌, inl, inr, ⊎_elim}
use Prim.Native.Nat.{ℕ, zero, suc, ◌+◌, ◌≤◌, ◌<◌}
use native.Mathlib.Omega.{arith}
use lib.Dec.{eqb}
use borrow.Author.Tests.{eqb-true, eqb-false}
use lib.ListN.{length}
use Rattle.meaning.specs.Context.{Row, term_at}
use Rattle.meaning.specs.Equality.{Equal, transitive}
use Rattle.meaning.specs.Closing.{Sofar, move, total}

pub move-cases : (lo hi x : ℕ) → ((x ≡ hi) × (move lo hi x ≡ lo)) ⊎ ((x ≡ hi → ⊥) × (move lo hi x ≡ x))
unfolding move
move-cases lo hi x = go (eqb x hi) refl
  where
    go : (b : Bool) → eqb x hi ≡ b → ((x ≡ hi) × (move lo hi x ≡ lo)) ⊎ ((x ≡ hi → ⊥) × (move lo hi x ≡ x))
    go true e = inl (eqb-true x hi e, rw (e, move))
    go false e = inr (eqb-false x hi e, rw (e, move))

pub total-le : (n : ℕ) (f g : ℕ → ℕ) → ((r : ℕ) → r < n → f r ≤ g r) → total n f ≤ total n g
unfolding total
total-le zero f g h = omega arith
total-le (suc n) f g h = omega (arith, h n (omega arith), total-le n f g (λ r l. h r (omega arith)))

pub total-lt : (n : ℕ) (f g : ℕ → ℕ) → ((r : ℕ) → r < n → f r ≤ g r) → (i : ℕ) → i < n → f i < g i → total n f < total n g
unfolding total
total-lt zero f g h i l k = absurd (omega arith)
total-lt (suc n) f g h i l k = go (eqb i n) refl (total-lt n f g (λ r m. h r (omega arith)) i)
  where
    go : (b : Bool) → eqb i n ≡ b → (i < n → f i < g i → total n f < total n g) → f n + total n f < g n + total n g
    go true e ih = omega (arith, subst (λ (x : ℕ). f x < g x) (eqb-true i n e) k, total-le n f g (λ r m. h r (omega arith)))
    go false e ih = omega (arith, h n (omega arith), ih (omega (arith, eqb-false i n e)) k)

module _ (rows : List Row) (eqs : List (ℕ × ℕ)) (rep rep' : ℕ → ℕ) (lo hi : ℕ) (so : Sofar rows eqs rep)
    (less : lo < hi) (inside : hi < length rows) (at-lo : rep lo ≡ lo) (at-hi : rep hi ≡ hi)
    (same : Equal rows eqs (term_at rows hi) (term_at rows lo))
    (moved : (r : ℕ) → r < length rows → rep' r ≡ move lo hi (rep r)) where
  after : (r : ℕ) → r < length rows → ((rep r ≡ hi) × (rep' r ≡ lo)) ⊎ ((rep r ≡ hi → ⊥) × (rep' r ≡ rep r))
  after r h = ⊎_elim (λ c. inl (c.0, moved r h ∙ c.1)) (λ c. inr (c.0, moved r h ∙ c.1)) (move-cases lo hi (rep r))

  after-lo : rep' lo ≡ lo
  after-lo = ⊎_elim (λ c. c.1) (λ c. c.1 ∙ at-lo) (after lo (omega arith))

  after-low : (r : ℕ) → r < length rows → rep' r ≤ rep r
  after-low r h = ⊎_elim (λ c. omega arith) (λ c. omega arith) (after r h)

  pub merge_keeps : Sofar rows eqs rep'
  merge_keeps =
      record {
        low = λ r h. omega (arith, after-low r h, so.low r h);
        settled = λ r h. settles r h (after r h);
        sound = λ r h. sounds r h (after r h);
      }
    where
      settles : (r : ℕ) → r < length rows → ((rep r ≡ hi) × (rep' r ≡ lo)) ⊎ ((rep r ≡ hi → ⊥) × (rep' r ≡ rep r)) → rep' (rep' r) ≡ rep' r
      settles r h (inl c) = rw c.1 after-lo
      settles r h (inr c) =
          rw c.1 (⊎_elim (λ d. absurd (c.0 (sym (so.settled r h) ∙ d.0))) (λ d. d.1 ∙ so.settled r h) (after (rep r) (omega (arith, so.low r h))))

      sounds : (r : ℕ) → r < length rows → ((rep r ≡ hi) × (rep' r ≡ lo)) ⊎ ((rep r ≡ hi → ⊥) × (rep' r ≡ rep r)) → Equal rows eqs (term_at rows r) (term_at rows (rep' r))
      sounds r h (inl c) =
          rw c.1 (transitive (subst (λ (x : ℕ). Equal rows eqs (term_at rows r) (term_at rows x)) c.0 (so.sound r h)) same)
      sounds r h (inr c) = rw c.1 (so.sound r h)

  pub merge-falls : total (length rows) rep' < total (length rows) rep
  merge-falls =
      total-lt (length rows) rep' rep after-low hi inside
      (⊎_elim (λ c. omega arith) (λ c. absurd (c.0 at-hi)) (after hi inside))
