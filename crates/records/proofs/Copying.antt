-- Places overwritten in order, from the first.
--     overwritten-next    after the first i places, place i too
--     overwritten-long    as many places as before
-- Assumes nothing.
use mathlib.Core.Path.{◌≡◌, refl, ap}
use Prim.Native.Nat.{ℕ, zero, suc, ◌≤◌, ◌<◌}
use native.Mathlib.Nat.{not-suc-le-zero, le_of_suc-le-suc}
use mathlib.Core.List.{List, [], ◌∷◌, ◌++◌}
use lib.ListN.{length, get_or, set, take, drop}

module _ {A : Type 0} where
  pub overwritten-next : (i : ℕ) (ys zs : List A) (d : A) → i < length ys → i < length zs
      → set (take i ys ++ drop i zs) i (get_or ys i d) ≡ take (suc i) ys ++ drop (suc i) zs
  overwritten-next i [] zs d l k = absurd (not-suc-le-zero l)
  overwritten-next i (y ∷ ys) [] d l k = absurd (not-suc-le-zero k)
  overwritten-next zero (y ∷ ys) (z ∷ zs) d l k = refl
  overwritten-next (suc i) (y ∷ ys) (z ∷ zs) d l k = ap (λ (r : List A). y ∷ r) (overwritten-next i ys zs d (le_of_suc-le-suc l) (le_of_suc-le-suc k))

  pub overwritten-long : (i : ℕ) (ys zs : List A) → i ≤ length ys → i ≤ length zs → length (take i ys ++ drop i zs) ≡ length zs
  overwritten-long zero ys zs l k = refl
  overwritten-long (suc i) [] zs l k = absurd (not-suc-le-zero l)
  overwritten-long (suc i) (y ∷ ys) [] l k = absurd (not-suc-le-zero k)
  overwritten-long (suc i) (y ∷ ys) (z ∷ zs) l k = ap suc (overwritten-long i ys zs (le_of_suc-le-suc l) (le_of_suc-le-suc k))
