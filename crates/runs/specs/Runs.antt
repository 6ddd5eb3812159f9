-- A context and a rule as runs of numbers. A row is its symbol, its count and four places for arguments; a statement its kind and two rows;
-- a pattern row its kind, its head, its count and four places; a literal its sign and two pattern rows. A run's length says how many it holds,
-- and what is left over says nothing.
--     row_count .. literal_count      how many a run holds
--     symbol_in .. right_in           the numbers of a piece, by its place; a literal's sides stand where a statement's do
--     rows_of .. literals_of          what a run says
--     context_of, clause_of           the context, and the rule, that two runs say
--     put                           a run with a piece written over what stood at its place
-- Assumes nothing.
use Rattle.std.specs.Prelude.{List, [], ◌∷◌, ◌++◌, ℕ, zero, suc, ◌+◌, ◌*◌, ◌/◌, length, get_or, take, drop}
use Rattle.meaning.specs.Context.{Row, Statement, Context}
use Rattle.meaning.specs.Rules.{Pattern, Literal, Clause}
use Rattle.meaning.specs.Columns.{statement_of, pattern_of, literal_of}
use Rattle.runs.specs.Limits.{row_size, said_size, pattern_size, literal_size, arg_places}

-- g 0, g 1, and so on, n elements
unfoldable pub each : {A : Type 0} → (ℕ → A) → ℕ → List A
each g zero = []
each g (suc n) = each g n ++ (g n ∷ [])

-- the arguments at some places, of which there are four
abbrev pub args_from : List ℕ → ℕ → ℕ → List ℕ
args_from run at count = take count (take arg_places (drop at run))

-- ---- rows

abbrev pub row_count : List ℕ → ℕ
row_count rows = length rows / row_size

abbrev pub symbol_in : List ℕ → ℕ → ℕ
symbol_in rows i = get_or rows (i * row_size) 0

abbrev pub count_in : List ℕ → ℕ → ℕ
count_in rows i = get_or rows (i * row_size + 1) 0

abbrev pub arg_in : List ℕ → ℕ → ℕ → ℕ
arg_in rows i k = get_or rows (i * row_size + 2 + k) 0

abbrev pub args_in : List ℕ → ℕ → List ℕ
args_in rows i = args_from rows (i * row_size + 2) (count_in rows i)

abbrev pub row_in : List ℕ → ℕ → Row
row_in rows i = record { symbol = symbol_in rows i; args = args_in rows i }

unfoldable pub rows_of : List ℕ → List Row
rows_of rows = each (row_in rows) (row_count rows)

-- ---- statements

abbrev pub said_count : List ℕ → ℕ
said_count said = length said / said_size

abbrev pub kind_in : List ℕ → ℕ → ℕ
kind_in said k = get_or said (k * said_size) 0

abbrev pub left_in : List ℕ → ℕ → ℕ
left_in said k = get_or said (k * said_size + 1) 0

abbrev pub right_in : List ℕ → ℕ → ℕ
right_in said k = get_or said (k * said_size + 2) 0

abbrev pub statement_in : List ℕ → ℕ → Statement
statement_in said k = statement_of (kind_in said k) (left_in said k) (right_in said k)

unfoldable pub statements_of : List ℕ → List Statement
statements_of said = each (statement_in said) (said_count said)

abbrev pub context_of : List ℕ → List ℕ → Context
context_of rows said = record { rows = rows_of rows; statements = statements_of said }

-- ---- pattern rows

abbrev pub pattern_count : List ℕ → ℕ
pattern_count patterns = length patterns / pattern_size

abbrev pub pattern_kind_in : List ℕ → ℕ → ℕ
pattern_kind_in patterns i = get_or patterns (i * pattern_size) 0

abbrev pub head_in : List ℕ → ℕ → ℕ
head_in patterns i = get_or patterns (i * pattern_size + 1) 0

abbrev pub pattern_count_in : List ℕ → ℕ → ℕ
pattern_count_in patterns i = get_or patterns (i * pattern_size + 2) 0

abbrev pub pattern_arg_in : List ℕ → ℕ → ℕ → ℕ
pattern_arg_in patterns i k = get_or patterns (i * pattern_size + 3 + k) 0

abbrev pub pattern_args_in : List ℕ → ℕ → List ℕ
pattern_args_in patterns i = args_from patterns (i * pattern_size + 3) (pattern_count_in patterns i)

abbrev pub pattern_in : List ℕ → ℕ → Pattern
pattern_in patterns i = pattern_of (pattern_kind_in patterns i) (head_in patterns i) (pattern_args_in patterns i)

unfoldable pub patterns_of : List ℕ → List Pattern
patterns_of patterns = each (pattern_in patterns) (pattern_count patterns)

-- ---- literals

abbrev pub literal_count : List ℕ → ℕ
literal_count literals = length literals / literal_size

abbrev pub sign_in : List ℕ → ℕ → ℕ
sign_in literals k = get_or literals (k * literal_size) 0

abbrev pub literal_in : List ℕ → ℕ → Literal
literal_in literals k = literal_of (sign_in literals k) (left_in literals k) (right_in literals k)

unfoldable pub literals_of : List ℕ → List Literal
literals_of literals = each (literal_in literals) (literal_count literals)

abbrev pub clause_of : List ℕ → List ℕ → Clause
clause_of patterns literals = record { patterns = patterns_of patterns; literals = literals_of literals }

-- ---- writing

-- piece n, of so many numbers
abbrev pub put : ℕ → List ℕ → ℕ → List ℕ → List ℕ
put size run n piece = take (n * size) run ++ piece ++ drop (n * size + size) run
