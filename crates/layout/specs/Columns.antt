-- Columns that are laid out from runs.
--     number_at, arg_at            a number of piece i, and argument x of all pieces
--     in_byte, byte_at             a number in a byte, a larger one as 255; a number of piece i so
--     Reaches                    n pieces of a size reach no further than a run
--     row_places, pattern_places   the places for all arguments
--     Few, FewRule               runs that the columns have room for
--     context_laid, rule_laid      the columns, place by place, unused ones 0
--     context_in, rule_in          what columns say
-- Assumes nothing.
use Rattle.std.specs.Prelude.{true, false, List, ℕ, ◌+◌, ◌*◌, ◌/◌, ◌%◌, ◌≤◌, ltb, get_or}
use Rattle.meaning.specs.Context.{Context}
use Rattle.meaning.specs.Rules.{Clause}
use Rattle.meaning.specs.Columns.{pad, context_from, clause_from}
use Rattle.runs.specs.Limits.{most_rows, most_statements, most_patterns, most_literals, row_size, said_size, pattern_size, literal_size, arg_places}
use Rattle.runs.specs.Runs.{each, row_count, said_count, pattern_count, literal_count}
use Rattle.layout.specs.declared.ContextColumns.{ContextColumns}
use Rattle.layout.specs.declared.RuleColumns.{RuleColumns}

abbrev pub number_at : List ℕ → ℕ → ℕ → ℕ → ℕ
number_at run size from i = get_or run (i * size + from) 0

abbrev pub arg_at : List ℕ → ℕ → ℕ → ℕ → ℕ
arg_at run size from x = number_at run size (from + x % arg_places) (x / arg_places)

unfoldable pub in_byte : ℕ → ℕ
in_byte v = elim (ltb v 256) [ true ↦ v | false ↦ 255 ]

abbrev pub byte_at : List ℕ → ℕ → ℕ → ℕ → ℕ
byte_at run size from i = in_byte (number_at run size from i)

pub record Reaches (long size past n : ℕ) : Type 0 where
  pub inside : n * size ≤ long
  pub within : past ≤ size

abbrev pub row_places : ℕ
row_places = most_rows * arg_places

abbrev pub pattern_places : ℕ
pattern_places = most_patterns * arg_places

pub record Few (rows said : List ℕ) : Type 0 where
  pub rows_few : row_count rows ≤ most_rows
  pub said-few : said_count said ≤ most_statements

pub record FewRule (patterns literals : List ℕ) : Type 0 where
  pub patterns-few : pattern_count patterns ≤ most_patterns
  pub literals-few : literal_count literals ≤ most_literals

abbrev pub context_laid : List ℕ → List ℕ → ContextColumns
context_laid rows said = record {
  rows = row_count rows;
  symbols = pad most_rows (each (number_at rows row_size 0) (row_count rows));
  counts = pad most_rows (each (byte_at rows row_size 1) (row_count rows));
  args = pad row_places (each (arg_at rows row_size 2) (row_count rows * arg_places));
  statements = said_count said;
  kinds = pad most_statements (each (byte_at said said_size 0) (said_count said));
  lefts = pad most_statements (each (number_at said said_size 1) (said_count said));
  rights = pad most_statements (each (number_at said said_size 2) (said_count said));
}

abbrev pub rule_laid : List ℕ → List ℕ → RuleColumns
rule_laid patterns literals = record {
  patterns = pattern_count patterns;
  kinds = pad most_patterns (each (byte_at patterns pattern_size 0) (pattern_count patterns));
  heads = pad most_patterns (each (number_at patterns pattern_size 1) (pattern_count patterns));
  counts = pad most_patterns (each (byte_at patterns pattern_size 2) (pattern_count patterns));
  args = pad pattern_places (each (arg_at patterns pattern_size 3) (pattern_count patterns * arg_places));
  literals = literal_count literals;
  signs = pad most_literals (each (byte_at literals literal_size 0) (literal_count literals));
  lefts = pad most_literals (each (number_at literals literal_size 1) (literal_count literals));
  rights = pad most_literals (each (number_at literals literal_size 2) (literal_count literals));
}

abbrev pub context_in : ContextColumns → Context
context_in c = context_from c.symbols c.counts c.args c.rows c.kinds c.lefts c.rights c.statements

abbrev pub rule_in : RuleColumns → Clause
rule_in k = clause_from k.kinds k.heads k.counts k.args k.patterns k.signs k.lefts k.rights k.literals
