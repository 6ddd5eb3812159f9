-- What of a clause a search for the first breach can leave out.
--     asked      the literals without those of the form p = p, which always hold
--     free_by     whether no side of a literal that is asked has a variable in its term
--     never      whether some literal is p unequal p
-- Assumes nothing.
use Rattle.std.specs.Prelude.{Bool, true, false, ◌||◌, List, [], ◌∷◌, ℕ, eqb}
use Rattle.meaning.specs.Rules.{Literal, equal, unequal, Clause}
use Rattle.meaning.specs.Pruning.{touches, none_touch}

unfoldable pub idle : Literal → Bool
idle (equal p q) = eqb p q
idle (unequal p q) = false

unfoldable pub asked : List Literal → List Literal
asked [] = []
asked (l ∷ ls) = let rest : List Literal = asked ls in elim (idle l) [ true ↦ rest | false ↦ l ∷ rest ]

unfoldable pub free_by : Clause → ℕ → Bool
free_by k v = none_touch (touches v k.patterns) (asked k.literals)

unfoldable pub self_unequal : Literal → Bool
self_unequal (equal p q) = false
self_unequal (unequal p q) = eqb p q

unfoldable pub never : List Literal → Bool
never [] = false
never (l ∷ ls) = self_unequal l || never ls
