-- Searches among context rows, and one place of many anew.
--     row_has, row-some, row-none  a row that passes makes `any_row` pass; where it passes there is such a row, and where it fails there is none
--     set-each                     one place anew: what holds of the new value and of the others holds of each
-- Assumes nothing.
use mathlib.Core.Bool.{Bool, true, false}
use mathlib.Core.List.{List, [], ◌∷◌}
use mathlib.Core.Path.{◌≡◌, refl, subst}
use mathlib.Core.Logic.{⊎_elim}
use Prim.Native.Nat.{ℕ, zero, suc, ◌+◌, ◌<◌}
use native.Mathlib.Omega.{arith}
use lib.Dec.{eqb}
use lib.ListN.{length}
use Rattle.meaning.specs.Context.{Row, row_at}
use Rattle.meaning.proofs.Logic.{false-true, or_cases, or_left, or_right}
use Rattle.matching.specs.Possible.{set_at, any_row}

-- ---- context rows

module _ (test : ℕ → Row → Bool) where
  pub row_has : (i : ℕ) (rs : List Row) (j : ℕ) → j < length rs → test (i + j) (row_at rs j) ≡ true → any_row test i rs ≡ true
  unfolding any_row
  row_has i [] j h e = absurd (omega arith)
  row_has i (r ∷ rs) zero h e = let z : i + 0 ≡ i = omega arith in or_left (test i r) (any_row test (suc i) rs) (rw z at e)
  row_has i (r ∷ rs) (suc j) h e =
      let z : i + suc j ≡ suc i + j = omega arith in
      or_right (test i r) (any_row test (suc i) rs) (row_has (suc i) rs j (omega arith) (subst (λ (n : ℕ). test n (row_at rs j) ≡ true) z e))

  pub row-some : (i : ℕ) (rs : List Row) → any_row test i rs ≡ true → (j : ℕ) × (j < length rs) × (test (i + j) (row_at rs j) ≡ true)
  unfolding any_row
  row-some i [] e = false-true e refl
  row-some i (r ∷ rs) e = ⊎_elim here (λ w. later (row-some (suc i) rs w)) (or_cases (test i r) (any_row test (suc i) rs) e)
    where
      here : test i r ≡ true → (j : ℕ) × (j < length (r ∷ rs)) × (test (i + j) (row_at (r ∷ rs) j) ≡ true)
      here w = let z : i ≡ i + 0 = omega arith in (0, omega arith, subst (λ (n : ℕ). test n r ≡ true) z w)

      later : ((j : ℕ) × (j < length rs) × (test (suc i + j) (row_at rs j) ≡ true)) → (j : ℕ) × (j < length (r ∷ rs)) × (test (i + j) (row_at (r ∷ rs) j) ≡ true)
      later w =
          let z : suc i + w.0 ≡ i + suc w.0 = omega arith in
          (suc w.0, omega (arith, w.1), subst (λ (n : ℕ). test n (row_at rs w.0) ≡ true) z w.2)

  -- counted from row 0
  pub row_here : (rs : List Row) (j : ℕ) → j < length rs → test j (row_at rs j) ≡ true → any_row test 0 rs ≡ true
  row_here rs j h e = let z : j ≡ 0 + j = omega arith in row_has 0 rs j h (subst (λ (n : ℕ). test n (row_at rs j) ≡ true) z e)

  pub row-there : (rs : List Row) → any_row test 0 rs ≡ true → (j : ℕ) × (j < length rs) × (test j (row_at rs j) ≡ true)
  row-there rs e =
      let w : (j : ℕ) × (j < length rs) × (test (0 + j) (row_at rs j) ≡ true) = row-some 0 rs e in
      let z : 0 + w.0 ≡ w.0 = omega arith in
      (w.0, w.1, subst (λ (n : ℕ). test n (row_at rs w.0) ≡ true) z w.2)

-- ---- one place anew

pub set_same : {A : Type 0} (p : ℕ) (new : A) (old : ℕ → A) (q : ℕ) → eqb q p ≡ true → set_at p new old q ≡ new
unfolding set_at
set_same p new old q e = rw (e, set_at) refl

pub set_other : {A : Type 0} (p : ℕ) (new : A) (old : ℕ → A) (q : ℕ) → eqb q p ≡ false → set_at p new old q ≡ old q
unfolding set_at
set_other p new old q e = rw (e, set_at) refl
