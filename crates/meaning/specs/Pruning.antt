-- What a search may go by when it leaves something out.
--     fails, due                     some literal that is asked fails; whether k is the higher level of a literal's two sides
--     touches, none_touch, free       whether each pattern row has a variable in its term, and whether no side of any literal has it
-- Assumes nothing.
use Rattle.std.specs.Prelude.{Bool, true, false, not, ◌&&◌, ◌||◌, List, [], ◌∷◌, ◌++◌, ℕ, max, eqb, get_or}
use Rattle.meaning.specs.Rules.{Pattern, variable, apply, Literal, Clause}
use Rattle.meaning.specs.Formed.{left_of, right_of}
use Rattle.meaning.specs.FirstBy.{holds_by}

-- ---- literals

-- some literal that is asked fails
unfoldable pub fails : (ℕ → ℕ → Bool) → (Literal → Bool) → List ℕ → List Literal → Bool
fails differs asks ns [] = false
fails differs asks ns (l ∷ more) = (asks l && not (holds_by differs ns l)) || fails differs asks ns more

-- the last of the literal's variables is the k-th
unfoldable pub due : ℕ → List ℕ → Literal → Bool
due k ls l = eqb (max (get_or ls (left_of l) 0) (get_or ls (right_of l) 0)) k

-- ---- the rows that have a variable in their terms

unfoldable pub any_of : List Bool → List ℕ → Bool
any_of bs [] = false
any_of bs (a ∷ l) = get_or bs a false || any_of bs l

unfoldable pub touch : ℕ → List Bool → Pattern → Bool
touch v bs (variable w) = eqb w v
touch v bs (apply f l) = any_of bs l

unfoldable pub touches_from : ℕ → List Bool → List Pattern → List Bool
touches_from v bs [] = bs
touches_from v bs (p ∷ ps) = touches_from v (bs ++ (touch v bs p ∷ [])) ps

unfoldable pub touches : ℕ → List Pattern → List Bool
touches v ps = touches_from v [] ps

-- ---- the variables that no literal reaches

unfoldable pub none_touch : List Bool → List Literal → Bool
none_touch bs [] = true
none_touch bs (l ∷ ls) = not (get_or bs (left_of l) false || get_or bs (right_of l) false) && none_touch bs ls

unfoldable pub free : Clause → ℕ → Bool
free k v = none_touch (touches v k.patterns) k.literals
