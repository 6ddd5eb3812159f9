-- Records, statements and a rule in runs.
--     room, list_of                   a run of records by value: all of them in as many places as the most rows, and none of too many
--     told, least                    how many pieces a run has: all, or one more than the most; and how many of them there are, or the most
--     joined                         pieces one after the other
--     row_numbers .. literal_piece     the numbers of a record, a statement, a pattern row and a literal
--     rows_laid .. literals_laid       the runs; of too many pieces one more than the most
--     rule_of                         the rule that its runs say
-- Assumes nothing.
use Rattle.std.specs.Prelude.{true, false, List, [], ◌∷◌, ◌++◌, ℕ, zero, suc, ◌+◌, ◌*◌, ltb, length, get_or, take, drop, replicate}
use Rattle.meaning.specs.Rules.{Clause}
use Rattle.runs.specs.Limits.{most_rows, most_statements, most_patterns, most_literals, arg_places}
use Rattle.runs.specs.Runs.{clause_of}
use Rattle.records.specs.declared.ClauseColumns.{ClauseColumns}
use Rattle.records.specs.declared.Row.{Row}
use Rattle.records.specs.declared.Statements.{Statements}
use Rattle.records.specs.declared.Table.{Table}
use Rattle.records.specs.Records.{no_row, four_of}

unfoldable pub room : ℕ → ℕ
room n = elim (ltb most_rows n) [ true ↦ 0 | false ↦ n ]

unfoldable pub list_of : List Row → Table
list_of rows = record { rows = take (room (length rows)) rows ++ drop (room (length rows)) (replicate most_rows no_row); count = length rows }

unfoldable pub told : ℕ → ℕ → ℕ
told most count = elim (ltb most count) [ true ↦ suc most | false ↦ count ]

unfoldable pub least : ℕ → ℕ → ℕ
least most count = elim (ltb most count) [ true ↦ most | false ↦ count ]

-- g 0, g 1, and so on, n pieces
unfoldable pub joined : (ℕ → List ℕ) → ℕ → List ℕ
joined g zero = []
joined g (suc n) = joined g n ++ g n

abbrev pub row_numbers : Row → List ℕ
row_numbers r = r.symbol ∷ r.count ∷ four_of r

abbrev pub row_piece : List Row → ℕ → List ℕ
row_piece rows i = row_numbers (get_or rows i no_row)

abbrev pub said_piece : Statements → ℕ → List ℕ
said_piece s i = get_or s.kinds i 0 ∷ get_or s.lefts i 0 ∷ get_or s.rights i 0 ∷ []

-- the four places of row i
abbrev pub places_at : List ℕ → ℕ → List ℕ
places_at args i =
    get_or args (i * arg_places) 0 ∷ get_or args (i * arg_places + 1) 0 ∷ get_or args (i * arg_places + 2) 0 ∷ get_or args (i * arg_places + 3) 0 ∷ []

abbrev pub pattern_piece : ClauseColumns → ℕ → List ℕ
pattern_piece k i = get_or k.kinds i 0 ∷ get_or k.heads i 0 ∷ get_or k.counts i 0 ∷ places_at k.args i

abbrev pub literal_piece : ClauseColumns → ℕ → List ℕ
literal_piece k i = get_or k.signs i 0 ∷ get_or k.lefts i 0 ∷ get_or k.rights i 0 ∷ []

abbrev pub rows_laid : Table → List ℕ
rows_laid t = joined (row_piece t.rows) (told most_rows t.count)

abbrev pub said_laid : Statements → List ℕ
said_laid s = joined (said_piece s) (told most_statements s.count)

abbrev pub patterns_laid : ClauseColumns → List ℕ
patterns_laid k = joined (pattern_piece k) (told most_patterns k.patterns)

abbrev pub literals_laid : ClauseColumns → List ℕ
literals_laid k = joined (literal_piece k) (told most_literals k.literals)

abbrev pub rule_of : ClauseColumns → Clause
rule_of k = clause_of (patterns_laid k) (literals_laid k)
