-- A context and a clause in columns: a list for each part of a row, four places for each row's arguments, unused places 0.
--     context_from, clause_from                what columns say, with how many rows and statements, or pattern rows and literals, they hold
--     pad, fours, symbols_of .. literal_kind   the columns of some rows, statements, pattern rows and literals
-- Assumes nothing.
use Rattle.std.specs.Prelude.{true, false, List, [], ◌∷◌, ◌++◌, map, ℕ, zero, suc, ◌-◌, ◌*◌, eqb, length, get_or, take, drop, replicate}
use Rattle.meaning.specs.Context.{Row, Statement, same, differ, Context}
use Rattle.meaning.specs.Rules.{Pattern, variable, apply, Literal, equal, unequal, Clause}

-- ---- from columns

abbrev pub args_at : List ℕ → List ℕ → ℕ → List ℕ
args_at counts args i = take (get_or counts i 0) (drop (i * 4) args)

abbrev pub row_from : List ℕ → List ℕ → List ℕ → ℕ → Row
row_from symbols counts args i = record { symbol = get_or symbols i 0; args = args_at counts args i }

-- the first n
unfoldable pub rows_from : List ℕ → List ℕ → List ℕ → ℕ → List Row
rows_from symbols counts args zero = []
rows_from symbols counts args (suc n) = rows_from symbols counts args n ++ (row_from symbols counts args n ∷ [])

-- 2 is an equation, and anything else a difference
unfoldable pub statement_of : ℕ → ℕ → ℕ → Statement
statement_of kind p q = elim (eqb kind 2) [ true ↦ same p q | false ↦ differ p q ]

unfoldable pub statements_from : List ℕ → List ℕ → List ℕ → ℕ → List Statement
statements_from kinds lefts rights zero = []
statements_from kinds lefts rights (suc m) =
    statements_from kinds lefts rights m ++ (statement_of (get_or kinds m 0) (get_or lefts m 0) (get_or rights m 0) ∷ [])

unfoldable pub context_from : List ℕ → List ℕ → List ℕ → ℕ → List ℕ → List ℕ → List ℕ → ℕ → Context
context_from symbols counts args n kinds lefts rights m =
    record { rows = rows_from symbols counts args n; statements = statements_from kinds lefts rights m }

-- 4 is a variable, whose number is its head, and anything else a symbol over pattern rows
unfoldable pub pattern_of : ℕ → ℕ → List ℕ → Pattern
pattern_of kind head l = elim (eqb kind 4) [ true ↦ variable head | false ↦ apply head l ]

unfoldable pub patterns_from : List ℕ → List ℕ → List ℕ → List ℕ → ℕ → List Pattern
patterns_from kinds heads counts args zero = []
patterns_from kinds heads counts args (suc n) =
    patterns_from kinds heads counts args n ++ (pattern_of (get_or kinds n 0) (get_or heads n 0) (args_at counts args n) ∷ [])

-- 6 is an equal literal, and anything else an unequal one
unfoldable pub literal_of : ℕ → ℕ → ℕ → Literal
literal_of kind p q = elim (eqb kind 6) [ true ↦ equal p q | false ↦ unequal p q ]

unfoldable pub literals_from : List ℕ → List ℕ → List ℕ → ℕ → List Literal
literals_from kinds lefts rights zero = []
literals_from kinds lefts rights (suc m) =
    literals_from kinds lefts rights m ++ (literal_of (get_or kinds m 0) (get_or lefts m 0) (get_or rights m 0) ∷ [])

unfoldable pub clause_from : List ℕ → List ℕ → List ℕ → List ℕ → ℕ → List ℕ → List ℕ → List ℕ → ℕ → Clause
clause_from kinds heads counts args n literals lefts rights m =
    record { patterns = patterns_from kinds heads counts args n; literals = literals_from literals lefts rights m }

-- ---- to columns

-- n places, unused ones 0
unfoldable pub pad : ℕ → List ℕ → List ℕ
pad n l = l ++ replicate (n - length l) 0

unfoldable pub fours : List (List ℕ) → List ℕ
fours [] = []
fours (a ∷ l) = pad 4 a ++ fours l

abbrev pub symbols_of : List Row → List ℕ
symbols_of rows = map (λ r. r.symbol) rows

abbrev pub counts_of : List Row → List ℕ
counts_of rows = map (λ r. length r.args) rows

abbrev pub arguments_of : List Row → List ℕ
arguments_of rows = fours (map (λ r. r.args) rows)

abbrev pub kind_of : Statement → ℕ
kind_of (same p q) = 2
kind_of (differ p q) = 3

abbrev pub first_of : Statement → ℕ
first_of (same p q) = p
first_of (differ p q) = p

abbrev pub second_of : Statement → ℕ
second_of (same p q) = q
second_of (differ p q) = q

abbrev pub pattern_kind : Pattern → ℕ
pattern_kind (variable v) = 4
pattern_kind (apply f l) = 5

abbrev pub head_of : Pattern → ℕ
head_of (variable v) = v
head_of (apply f l) = f

abbrev pub args_in : Pattern → List ℕ
args_in (variable v) = []
args_in (apply f l) = l

abbrev pub literal_kind : Literal → ℕ
literal_kind (equal p q) = 6
literal_kind (unequal p q) = 7
