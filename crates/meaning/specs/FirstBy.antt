-- The plain search for the first breach, by a table handed in, whatever the table is.
--     holds_by    whether a literal holds, by the numbers of its pattern rows; the test of an unequal literal is handed in
--     first_by    the first assignment of rows that are their own representatives under which every literal holds, or none
-- Assumes nothing.
use Rattle.std.specs.Prelude.{Bool, true, false, ◌&&◌, List, [], ◌∷◌, ◌++◌, ℕ, zero, suc, eqb, length}
use Rattle.meaning.specs.Context.{Row}
use Rattle.meaning.specs.Rules.{Literal, equal, unequal, Clause, variables, Found, found, nothing}
use Rattle.meaning.specs.Values.{number_at, numbers}

unfoldable pub holds_by : (ℕ → ℕ → Bool) → List ℕ → Literal → Bool
holds_by differs ns (equal p q) = eqb (number_at ns p) (number_at ns q)
holds_by differs ns (unequal p q) = differs (number_at ns p) (number_at ns q)

unfoldable pub all_hold_by : (ℕ → ℕ → Bool) → List ℕ → List Literal → Bool
all_hold_by differs ns [] = true
all_hold_by differs ns (l ∷ ls) = holds_by differs ns l && all_hold_by differs ns ls

-- of n rows, from row i on, those that are their own representatives
unfoldable pub lowest : (ℕ → ℕ) → ℕ → ℕ → List ℕ
lowest rep i zero = []
lowest rep i (suc n) = let l : List ℕ = lowest rep (suc i) n in elim (eqb (rep i) i) [ true ↦ i ∷ l | false ↦ l ]

unfoldable pub or_else : Found → Found → Found
or_else (found a) s = found a
or_else nothing s = s

-- the first answer over some rows of the next variable
unfoldable pub try_all : (List ℕ → Found) → List ℕ → List ℕ → Found
try_all next chosen [] = nothing
try_all next chosen (x ∷ l) = let r : Found = try_all next chosen l in or_else (next (chosen ++ (x ∷ []))) r

-- n variables are left, each with the same rows
unfoldable pub seek : (List ℕ → Bool) → List ℕ → ℕ → List ℕ → Found
seek test rows zero chosen = elim (test chosen) [ true ↦ found chosen | false ↦ nothing ]
seek test rows (suc n) chosen = try_all (seek test rows n) chosen rows

module _ (differs : ℕ → ℕ → Bool) (rows : List Row) (rep : ℕ → ℕ) (offset : ℕ) (k : Clause) where
  unfoldable pub breaks : List ℕ → Bool
  breaks a = all_hold_by differs (numbers rows rep offset k.patterns a) k.literals

  unfoldable pub first_by : Found
  first_by = seek breaks (lowest rep 0 (length rows)) (variables k.patterns) []
