-- The numbers that stand for a row, a statement, a pattern row and a literal in a run, and the run of several.
--     row_numbers .. literal_numbers   the numbers of a piece
--     numbers_of                      those of several, one after the other
-- Assumes nothing.
use Rattle.std.specs.Prelude.{List, [], ◌∷◌, ◌++◌, ℕ, length}
use Rattle.meaning.specs.Context.{Row, Statement}
use Rattle.meaning.specs.Rules.{Pattern, Literal}
use Rattle.meaning.specs.Formed.{left_of, right_of}
use Rattle.meaning.specs.Columns.{pad, kind_of, first_of, second_of, pattern_kind, head_of, args_in, literal_kind}
use Rattle.runs.specs.Limits.{arg_places}

abbrev pub row_numbers : Row → List ℕ
row_numbers r = r.symbol ∷ length r.args ∷ pad arg_places r.args

abbrev pub said_numbers : Statement → List ℕ
said_numbers s = kind_of s ∷ first_of s ∷ second_of s ∷ []

abbrev pub pattern_numbers : Pattern → List ℕ
pattern_numbers p = pattern_kind p ∷ head_of p ∷ length (args_in p) ∷ pad arg_places (args_in p)

abbrev pub literal_numbers : Literal → List ℕ
literal_numbers l = literal_kind l ∷ left_of l ∷ right_of l ∷ []

unfoldable pub numbers_of : {A : Type 0} → (A → List ℕ) → List A → List ℕ
numbers_of numbers [] = []
numbers_of numbers (a ∷ l) = numbers a ++ numbers_of numbers l
