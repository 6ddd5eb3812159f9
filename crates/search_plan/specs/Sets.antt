-- Sets of variables as bits: bit v is variable v.
--     sets          the variables in the term of each pattern row
--     sides         those in the terms of a literal's sides, or none where it says p = p
--     reached_by     those of all literals
-- Assumes nothing.
use Rattle.std.specs.Prelude.{true, false, List, [], ◌∷◌, ◌++◌, ℕ, ◌^◌, get_or}
use Rattle.std.specs.Int.Bits.{bit_or}
use Rattle.meaning.specs.Rules.{Pattern, variable, apply, Literal}
use Rattle.meaning.specs.Formed.{left_of, right_of}
use Rattle.search_plan.specs.Asked.{idle}

-- a set, with those of some rows
unfoldable pub union : List ℕ → ℕ → List ℕ → ℕ
union sets s [] = s
union sets s (a ∷ l) = union sets (bit_or s (get_or sets a 0)) l

-- one row, by the sets of the rows before it
unfoldable pub set_of : List ℕ → Pattern → ℕ
set_of sets (variable v) = 2 ^ v
set_of sets (apply f l) = union sets 0 l

unfoldable pub sets_from : List ℕ → List Pattern → List ℕ
sets_from sets [] = sets
sets_from sets (p ∷ ps) = sets_from (sets ++ (set_of sets p ∷ [])) ps

unfoldable pub sets : List Pattern → List ℕ
sets ps = sets_from [] ps

unfoldable pub sides : List ℕ → Literal → ℕ
sides sets l = elim (idle l) [ true ↦ 0 | false ↦ bit_or (get_or sets (left_of l) 0) (get_or sets (right_of l) 0) ]

-- a set, with those of some literals
unfoldable pub reached_from : List ℕ → ℕ → List Literal → ℕ
reached_from sets s [] = s
reached_from sets s (l ∷ ls) = reached_from sets (bit_or s (sides sets l)) ls

abbrev pub reached_by : List ℕ → List Literal → ℕ
reached_by sets ls = reached_from sets 0 ls
