-- The first breach after an assignment, by a table handed in, whatever the table is.
--     earlier    whether a list of numbers stands before another: at the first place where they are not the same it has the smaller number
--     next_by     the first assignment of rows that are their own representatives, later than one handed in, under which every literal holds, or none
-- Assumes nothing.
use Rattle.std.specs.Prelude.{Bool, true, false, ◌&&◌, List, [], ◌∷◌, ℕ, eqb, ltb, length, take}
use Rattle.meaning.specs.Context.{Row}
use Rattle.meaning.specs.Rules.{Clause, variables, Found}
use Rattle.meaning.specs.FirstBy.{lowest, seek, breaks}

unfoldable pub earlier : List ℕ → List ℕ → Bool
earlier [] b = false
earlier (x ∷ a) [] = false
earlier (x ∷ a) (y ∷ b) = let rest : Bool = earlier a b in elim (eqb x y) [ true ↦ rest | false ↦ ltb x y ]

module _ (differs : ℕ → ℕ → Bool) (rows : List Row) (rep : ℕ → ℕ) (offset : ℕ) (k : Clause) where
  -- only as many places of the assignment handed in are read as there are variables
  unfoldable pub next_by : List ℕ → Found
  next_by after =
      seek (λ a. breaks differs rows rep offset k a && earlier (take (length a) after) a) (lowest rep 0 (length rows)) (variables k.patterns) []
