-- What the pattern rows and the variables can still be, before the next choice, by a table of representatives handed in, whatever the table is.
--     Possible           for each pattern row a set of classes and whether it may lie outside the table; for each variable a set of rows
--     set, put, cut      one place anew; one pattern row anew, and to what it had and is handed too
--     shut, shut_if       no breach is left
--     any_row             whether some context row, from row i on, passes a test
--     may                whether some pattern rows can have some classes, place by place
-- A set is a test of numbers: code keeps it as bits in words (crate `bits`). Assumes nothing.
use Rattle.std.specs.Prelude.{Bool, true, false, ◌&&◌, ◌||◌, List, [], ◌∷◌, ℕ, suc, eqb}
use Rattle.meaning.specs.Context.{Row}

pub record Possible : Type 0 where
  -- false: no breach is left
  pub alive : Bool
  -- pattern row, class
  pub classes : ℕ → ℕ → Bool
  pub outside : ℕ → Bool
  -- variable, row
  pub candidates : ℕ → ℕ → Bool

-- ---- one place anew

unfoldable pub set_at : {A : Type 0} → ℕ → A → (ℕ → A) → ℕ → A
set_at p new old q = elim (eqb q p) [ true ↦ new | false ↦ old q ]

unfoldable pub put : ℕ → (ℕ → Bool) → Bool → Possible → Possible
put p set out P = record { alive = P.alive; classes = set_at p set P.classes; outside = set_at p out P.outside; candidates = P.candidates }

unfoldable pub cut : ℕ → (ℕ → Bool) → Bool → Possible → Possible
cut p set out P = put p (λ x. P.classes p x && set x) (P.outside p && out) P

unfoldable pub sift : ℕ → (ℕ → Bool) → Possible → Possible
sift v set P =
    record { alive = P.alive; classes = P.classes; outside = P.outside; candidates = set_at v (λ x. P.candidates v x && set x) P.candidates }

unfoldable pub shut : Possible → Possible
shut P = record { alive = false; classes = P.classes; outside = P.outside; candidates = P.candidates }

unfoldable pub shut_if : Bool → Possible → Possible
shut_if true P = shut P
shut_if false P = P

-- ---- tests of context rows, and of arguments

unfoldable pub any_row : (ℕ → Row → Bool) → ℕ → List Row → Bool
any_row test i [] = false
any_row test i (r ∷ rs) = test i r || any_row test (suc i) rs

-- as many rows as classes, and each row can have its class
unfoldable pub may : (ℕ → ℕ → Bool) → List ℕ → List ℕ → Bool
may classes [] [] = true
may classes [] (x ∷ xs) = false
may classes (a ∷ l) [] = false
may classes (a ∷ l) (x ∷ xs) = classes a x && may classes l xs
