-- The text: bytes to lines, lines to a context and a clause, or to the first fault.
--     lines_of, fields        the lines of a text; the bytes that a line's digits stand for
--     kinds, entry_of         the kinds of line by their numbers; what a line of a kind adds
--     Limits, narrow         how much a text may have
--     legible .. agrees      what refusals 1 to 7 test, each under its number
--     offset_of               the byte of its line that a refusal names
--     read                   what a text says, or its refusal: the first faulty line, and there the lowest number
-- Assumes nothing.
use Rattle.std.specs.Prelude.{Bool, true, false, not, ◌&&◌, ◌||◌, List, [], ◌∷◌, ◌++◌, ℕ, zero, suc, ◌+◌, ◌-◌, ◌*◌, ◌%◌, min, eqb, ltb, leb, length, get_or, drop}
use Rattle.meaning.specs.Context.{Row, Context, Statement, same, differ}
use Rattle.meaning.specs.Rules.{Clause, Pattern, variable, apply, Literal, equal, unequal}

-- ---- lines: a line's bytes, and whether a line feed ends it; nothing is left after the last line feed
pub record Line : Type 0 where
  pub bytes : List ℕ
  pub ended : Bool

abbrev pub linefeed : ℕ
linefeed = 10

-- the lines of a text whose first line begins with the bytes given
unfoldable pub lines_from : List ℕ → List ℕ → List Line
lines_from [] [] = []
lines_from (a ∷ l) [] = record { bytes = a ∷ l; ended = false } ∷ []
lines_from l (b ∷ t) =
    elim (eqb b linefeed) [ true ↦ record { bytes = l; ended = true } ∷ lines_from [] t | false ↦ lines_from (l ++ (b ∷ [])) t ]

unfoldable pub lines_of : List ℕ → List Line
lines_of text = lines_from [] text

-- ---- fields: each two digits stand for a byte
abbrev pub within : ℕ → ℕ → ℕ → Bool
within a b x = leb a x && leb x b

-- the value of 0 to 9 and A to F; 255 for any other byte
unfoldable pub digit : ℕ → ℕ
digit b = elim (within 48 57 b) [ true ↦ b - 48 | false ↦ elim (within 65 70 b) [ true ↦ b - 55 | false ↦ 255 ] ]

unfoldable pub fields : List ℕ → List ℕ
fields [] = []
fields (a ∷ []) = []
fields (a ∷ b ∷ l) = (digit a * 16 + digit b) ∷ fields l

abbrev pub field_at : List ℕ → ℕ → ℕ
field_at l i = get_or l i 0

-- ---- kinds, by their numbers (2 refuses a number that is not listed)
pub data Kind : Type 0 where
  context_row equation difference variable_pattern symbol_pattern equal_literal unequal_literal : Kind

abbrev pub kinds : List (ℕ × Kind)
kinds = (1, context_row) ∷ (2, equation) ∷ (3, difference) ∷ (4, variable_pattern) ∷ (5, symbol_pattern) ∷ (6, equal_literal) ∷ (7, unequal_literal) ∷ []

unfoldable pub is_listed : ℕ → List (ℕ × Kind) → Bool
is_listed n [] = false
is_listed n (k ∷ ks) = eqb n k.0 || is_listed n ks

unfoldable pub listed_as : ℕ → List (ℕ × Kind) → Kind
listed_as n [] = context_row
listed_as n (k ∷ ks) = elim (eqb n k.0) [ true ↦ k.1 | false ↦ listed_as n ks ]

-- how many fields a line of a kind has; field 0 is the kind, and a row's field 3 its count
unfoldable pub size_of : Kind → List ℕ → ℕ
size_of context_row l = 4 + field_at l 3
size_of equation l = 3
size_of difference l = 3
size_of variable_pattern l = 2
size_of symbol_pattern l = 4 + field_at l 3
size_of equal_literal l = 3
size_of unequal_literal l = 3

-- what a line adds
pub data Entry : Type 0 where
  row : Row → Entry
  statement : Statement → Entry
  pattern : Pattern → Entry
  literal : Literal → Entry

abbrev pub symbol_in : List ℕ → ℕ
symbol_in l = field_at l 1 * 256 + field_at l 2

unfoldable pub entry_of : Kind → List ℕ → Entry
entry_of context_row l = row (record { symbol = symbol_in l; args = drop 4 l })
entry_of equation l = statement (same (field_at l 1) (field_at l 2))
entry_of difference l = statement (differ (field_at l 1) (field_at l 2))
entry_of variable_pattern l = pattern (variable (field_at l 1))
entry_of symbol_pattern l = pattern (apply (symbol_in l) (drop 4 l))
entry_of equal_literal l = literal (equal (field_at l 1) (field_at l 2))
entry_of unequal_literal l = literal (unequal (field_at l 1) (field_at l 2))

unfoldable pub rank_of : Entry → ℕ
rank_of (row r) = 1
rank_of (statement s) = 2
rank_of (pattern p) = 3
rank_of (literal l) = 4

-- ---- what was read so far: by the context lines, with how many stated an equation and how many a difference; and by the clause lines
pub record Ledger : Type 0 where
  pub context : Context
  pub equation_lines : ℕ
  pub difference_lines : ℕ

pub record Read : Type 0 where
  pub rank : ℕ
  pub ledger : Ledger
  pub clause : Clause

abbrev pub ledger_of : List Row → List Statement → ℕ → ℕ → Ledger
ledger_of rs l e d = record { context = record { rows = rs; statements = l }; equation_lines = e; difference_lines = d }

abbrev pub clause_of : List Pattern → List Literal → Clause
clause_of ps ls = record { patterns = ps; literals = ls }

abbrev pub nothing_read : Read
nothing_read = record { rank = 0; ledger = ledger_of [] [] 0 0; clause = clause_of [] [] }

abbrev pub rows_of : Read → List Row
rows_of s = s.ledger.context.rows

abbrev pub patterns_of : Read → List Pattern
patterns_of s = s.clause.patterns

unfoldable pub put_context : Entry → Ledger → Ledger
put_context (row r) s = ledger_of (s.context.rows ++ (r ∷ [])) s.context.statements s.equation_lines s.difference_lines
put_context (statement (same p q)) s = ledger_of s.context.rows (s.context.statements ++ (same p q ∷ [])) (suc s.equation_lines) s.difference_lines
put_context (statement (differ p q)) s = ledger_of s.context.rows (s.context.statements ++ (differ p q ∷ [])) s.equation_lines (suc s.difference_lines)
put_context (pattern p) s = s
put_context (literal l) s = s

unfoldable pub put_clause : Entry → Clause → Clause
put_clause (row r) k = k
put_clause (statement s) k = k
put_clause (pattern p) k = clause_of (k.patterns ++ (p ∷ [])) k.literals
put_clause (literal l) k = clause_of k.patterns (k.literals ++ (l ∷ []))

unfoldable pub put : Entry → Read → Read
put e s = record { rank = rank_of e; ledger = put_context e s.ledger; clause = put_clause e s.clause }

-- ---- limits: the most lines of each group, the highest count and the highest variable
pub record Limits : Type 0 where
  pub rows : ℕ
  pub equations : ℕ
  pub differences : ℕ
  pub patterns : ℕ
  pub literals : ℕ
  pub count : ℕ
  pub variable : ℕ

abbrev pub narrow : Limits
narrow = record { rows = 255; equations = 255; differences = 255; patterns = 64; literals = 16; count = 4; variable = 3 }

-- ---- the tests of a line, by the number of the refusal that it gets where a test fails

-- the first place from i on whose number fails a test, if there is one
pub data Spot : Type 0 where
  at : ℕ → Spot
  nowhere : Spot

unfoldable pub first_failing : (ℕ → Bool) → ℕ → List ℕ → Spot
first_failing test i [] = nowhere
first_failing test i (a ∷ l) = elim (test a) [ true ↦ first_failing test (suc i) l | false ↦ at i ]

unfoldable pub is_nowhere : Spot → Bool
is_nowhere (at i) = false
is_nowhere nowhere = true

-- 1: every byte is a digit, their number is even and not 0, and a line feed ends the line
unfoldable pub non_digit : List ℕ → Spot
non_digit bytes = first_failing (λ b. ltb (digit b) 16) 0 bytes

unfoldable pub legible : Line → Bool
legible line =
    (is_nowhere (non_digit line.bytes) && eqb (length line.bytes % 2) 0) && (ltb 0 (length line.bytes) && line.ended)

-- 2: the kind is listed
unfoldable pub known : List ℕ → Bool
known l = is_listed (field_at l 0) kinds

-- 3: the length is the kind's
unfoldable pub sized : Kind → List ℕ → Bool
sized k l = eqb (length l) (size_of k l)

-- 4: the rank is no lower than that of the line before
unfoldable pub ranked : Entry → Read → Bool
ranked e s = leb s.rank (rank_of e)

-- 5: there is room for one line more of its group, and its count or variable is within the limit
unfoldable pub room : Limits → Entry → Read → Bool
room L (row r) s = ltb (length (rows_of s)) L.rows && leb (length r.args) L.count
room L (statement (same p q)) s = ltb s.ledger.equation_lines L.equations
room L (statement (differ p q)) s = ltb s.ledger.difference_lines L.differences
room L (pattern (variable v)) s = ltb (length (patterns_of s)) L.patterns && leb v L.variable
room L (pattern (apply f l)) s = ltb (length (patterns_of s)) L.patterns && leb (length l) L.count
room L (literal l) s = ltb (length s.clause.literals) L.literals

-- 6: each row that it names is an earlier one of its table
unfoldable pub named_by : Entry → List ℕ
named_by (row r) = r.args
named_by (statement (same p q)) = p ∷ q ∷ []
named_by (statement (differ p q)) = p ∷ q ∷ []
named_by (pattern (variable v)) = []
named_by (pattern (apply f l)) = l
named_by (literal (equal p q)) = p ∷ q ∷ []
named_by (literal (unequal p q)) = p ∷ q ∷ []

unfoldable pub table_of : Entry → Read → ℕ
table_of (row r) s = length (rows_of s)
table_of (statement l) s = length (rows_of s)
table_of (pattern p) s = length (patterns_of s)
table_of (literal l) s = length (patterns_of s)

unfoldable pub no_row : Entry → Read → Spot
no_row e s = first_failing (λ r. ltb r (table_of e s)) 0 (named_by e)

unfoldable pub refers : Entry → Read → Bool
refers e s = is_nowhere (no_row e s)

-- 7: no earlier line of either table has its symbol with another count
unfoldable pub rows_agree : ℕ → ℕ → List Row → Bool
rows_agree f n [] = true
rows_agree f n (r ∷ rs) = (not (eqb r.symbol f) || eqb (length r.args) n) && rows_agree f n rs

unfoldable pub patterns_agree : ℕ → ℕ → List Pattern → Bool
patterns_agree f n [] = true
patterns_agree f n (variable v ∷ ps) = patterns_agree f n ps
patterns_agree f n (apply g l ∷ ps) = (not (eqb g f) || eqb (length l) n) && patterns_agree f n ps

abbrev pub counts_agree : ℕ → ℕ → Read → Bool
counts_agree f n s = rows_agree f n (rows_of s) && patterns_agree f n (patterns_of s)

unfoldable pub agrees : Entry → Read → Bool
agrees (row r) s = counts_agree r.symbol (length r.args) s
agrees (statement l) s = true
agrees (pattern (variable v)) s = true
agrees (pattern (apply f l)) s = counts_agree f (length l) s
agrees (literal l) s = true

unfoldable pub tests_of : Limits → Line → List ℕ → Kind → Entry → Read → List Bool
tests_of L line l k e s = legible line ∷ known l ∷ sized k l ∷ ranked e s ∷ room L e s ∷ refers e s ∷ agrees e s ∷ []

-- the number of the first test that fails, counted from n; else 0
unfoldable pub first_fault : ℕ → List Bool → ℕ
first_fault n [] = 0
first_fault n (b ∷ l) = elim b [ true ↦ first_fault (suc n) l | false ↦ n ]

-- ---- the byte of its line that a refusal names, counted from 0, by the tests that refuse the line; it is byte 65,535 at the furthest
abbrev pub furthest : ℕ
furthest = 65535

unfoldable pub spot_or : ℕ → Spot → ℕ
spot_or n (at i) = i
spot_or n nowhere = n

-- 1: the first byte that is no digit, else the line's length
unfoldable pub bad_byte : Line → ℕ
bad_byte line = spot_or (length line.bytes) (non_digit line.bytes)

-- 6: the first digit of the first field that names no row; the fields that name rows begin with this one
unfoldable pub names_from : Entry → ℕ
names_from (row r) = 4
names_from (statement l) = 1
names_from (pattern p) = 4
names_from (literal l) = 1

unfoldable pub bad_field : Entry → Read → ℕ
bad_field e s = (names_from e + spot_or 0 (no_row e s)) * 2

-- the others: the first byte
unfoldable pub offset_of : ℕ → Line → Entry → Read → ℕ
offset_of number line e s = min furthest (elim (eqb number 1) [ true ↦ bad_byte line | false ↦ elim (eqb number 6) [ true ↦ bad_field e s | false ↦ 0 ] ])

-- ---- the whole text, or its refusal: a number, the line or ordinal that it names, and the byte of that line
pub record Refusal : Type 0 where
  pub number : ℕ
  pub place : ℕ
  pub offset : ℕ

pub data Reading : Type 0 where
  faulty : Refusal → Reading
  taken : Read → Reading

-- the lines from line n on
unfoldable pub read_lines : Limits → ℕ → Read → List Line → Reading
read_lines L n s [] = taken s
read_lines L n s (line ∷ lines) =
    let l : List ℕ = fields line.bytes in
    let k : Kind = listed_as (field_at l 0) kinds in
    let e : Entry = entry_of k l in
    elim (first_fault 1 (tests_of L line l k e s)) [
      | zero ↦ read_lines L (suc n) (put e s) lines
      | suc f ↦ faulty (record { number = suc f; place = n; offset = offset_of (suc f) line e s })
    ]

unfoldable pub read : Limits → List ℕ → Reading
read L text = read_lines L 1 nothing_read (lines_of text)
