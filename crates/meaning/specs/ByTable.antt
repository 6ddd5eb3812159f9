-- What can be computed from a table of representatives, whatever the table is: closed or not.
--     clash_of     the first stated difference whose sides have one representative
--     apart_by     whether two classes are the representatives of a stated difference
--     same_list    whether two lists of numbers are the same
-- Assumes nothing.
use Rattle.std.specs.Prelude.{Bool, true, false, ◌&&◌, ◌||◌, List, [], ◌∷◌, ℕ, suc, eqb}

pub data Clashing : Type 0 where
  first : ℕ → Clashing
  clear : Clashing

unfoldable pub clash_from : (ℕ → ℕ) → ℕ → List (ℕ × ℕ) → Clashing
clash_from rep i [] = clear
clash_from rep i (d ∷ ds) = elim (eqb (rep d.0) (rep d.1)) [ true ↦ first i | false ↦ clash_from rep (suc i) ds ]

unfoldable pub clash_of : (ℕ → ℕ) → List (ℕ × ℕ) → Clashing
clash_of rep ds = clash_from rep 0 ds

-- in either orientation
unfoldable pub apart_by : (ℕ → ℕ) → List (ℕ × ℕ) → ℕ → ℕ → Bool
apart_by rep [] n m = false
apart_by rep (d ∷ ds) n m =
    ((eqb n (rep d.0) && eqb m (rep d.1)) || (eqb m (rep d.0) && eqb n (rep d.1))) || apart_by rep ds n m

unfoldable pub same_list : List ℕ → List ℕ → Bool
same_list [] [] = true
same_list [] (b ∷ m) = false
same_list (a ∷ l) [] = false
same_list (a ∷ l) (b ∷ m) = eqb a b && same_list l m
