-- What the look-ups of a kind and of its length answer.
--     meant_kind             a kind of the code as one of `meaning`
--     Looked                a number's kind
--     fields_at              the fields of the line from a place to an end
--     fixed_size, term_size   a line with a fixed number of digits; one that says how many arguments it has
--     SizeIs                a line has its kind's length, with so many arguments, or has not
--     kind_rank              a kind's rank
-- Assumes nothing.
use Rattle.std.specs.Prelude.{Option, Some, None, true, false, List, ◌≡◌, ℕ, ◌+◌, ◌-◌, ◌*◌, eqb, ltb, take, drop, cond}
use Rattle.meaning.specs.Text as M
use Rattle.meaning.specs.Text.{context_row, equation, difference, variable_pattern, symbol_pattern, equal_literal, unequal_literal, fields, is_listed, listed_as, kinds, sized}
use Rattle.text_lines.specs.Lines.{value_at}
use Rattle.text_reader.specs.declared.kinds.Kind.{Kind}
use Rattle.text_reader.specs.declared.kinds.Kind.TheVariants.{ContextRow, Equation, Difference, VariablePattern, SymbolPattern, EqualLiteral, UnequalLiteral}

abbrev pub meant_kind : Kind → M.Kind
meant_kind ContextRow = context_row
meant_kind Equation = equation
meant_kind Difference = difference
meant_kind VariablePattern = variable_pattern
meant_kind SymbolPattern = symbol_pattern
meant_kind EqualLiteral = equal_literal
meant_kind UnequalLiteral = unequal_literal

abbrev pub Looked : ℕ → Option Kind → Type 0
Looked n (Some k) = (is_listed n kinds ≡ true) × (listed_as n kinds ≡ meant_kind k)
Looked n None = is_listed n kinds ≡ false

abbrev pub fields_at : List ℕ → ℕ → ℕ → List ℕ
fields_at text at end = fields (take (end - at) (drop at text))

unfoldable pub fixed_size : ℕ → ℕ → Option ℕ
fixed_size long digits = cond (eqb long digits) (Some 0) None

unfoldable pub term_size : List ℕ → ℕ → ℕ → Option ℕ
term_size text at end =
    cond (ltb (end - at) 8) None (cond (eqb (end - at) (8 + value_at text (at + 6) * 2)) (Some (value_at text (at + 6))) None)

-- how long a line of a kind with so many arguments is
abbrev pub LongBy : M.Kind → ℕ → ℕ → Type 0
LongBy context_row long count = long ≡ 8 + count * 2
LongBy equation long count = long ≡ 6
LongBy difference long count = long ≡ 6
LongBy variable_pattern long count = long ≡ 4
LongBy symbol_pattern long count = long ≡ 8 + count * 2
LongBy equal_literal long count = long ≡ 6
LongBy unequal_literal long count = long ≡ 6

abbrev pub SizeIs : List ℕ → ℕ → ℕ → M.Kind → Option ℕ → Type 0
SizeIs text at end k (Some count) = (sized k (fields_at text at end) ≡ true) × LongBy k (end - at) count
SizeIs text at end k None = sized k (fields_at text at end) ≡ false

abbrev pub kind_rank : Kind → ℕ
kind_rank ContextRow = 1
kind_rank Equation = 2
kind_rank Difference = 2
kind_rank VariablePattern = 3
kind_rank SymbolPattern = 3
kind_rank EqualLiteral = 4
kind_rank UnequalLiteral = 4
