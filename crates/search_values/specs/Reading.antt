-- Pattern rows read in an order, over runs: what the reading asks, and what it gives.
--     Listed, ReadFit, Asked      rows of an order that have been read; a rule with values for its rows; all that a reading asks
--     SymbolFit, VariableFit      a well-formed row of either kind
--     Met                         the first row read that is a symbol over some values
--     state_of                     the values so far and the rows read so far
--     look_of, term_of, read_of      the value of a symbol over values, of one row, and the values after some rows of the order
--     look_in, read_in              the same by the runs that are lent
-- Assumes nothing.
use Rattle.std.specs.Prelude.{Option, List, ◌≡◌, ℕ, ◌+◌, ◌*◌, ◌≤◌, ◌<◌, length, get_or, take}
use Rattle.std.specs.Option.{unwrap_or}
use Rattle.std.proofs.Math.Seq.{slice}
use Rattle.meaning.specs.Context.{Row}
use Rattle.meaning.specs.Rules.{Pattern}
use Rattle.meaning.specs.Equality.{rep_at}
use Rattle.meaning.specs.Values.{pattern_at, held, met, Numbering, number_of, number}
use Rattle.runs.specs.Limits.{most_patterns, most_variables, pattern_size}
use Rattle.runs.specs.Runs.{rows_of, pattern_count, pattern_kind_in, head_in, pattern_count_in, patterns_of}
use Rattle.runs.specs.Fit.{PlacedAt}
use Rattle.search_plan.specs.Steps.{RuleFit}
use Rattle.search_values.specs.Lookup.{LedgerFit}

-- the first places of an order name pattern rows
pub record Listed (order : List ℕ) (read patterns : ℕ) : Type 0 where
  pub long : read ≤ length order
  pub rows : (j : ℕ) → j < read → get_or order j 0 < patterns

pub record ReadFit (patterns order : List ℕ) (read places : ℕ) : Type 0 where
  pub rule : RuleFit patterns
  pub listed : Listed order read (pattern_count patterns)
  pub valued : pattern_count patterns ≤ places

pub record Asked (rows table keys patterns order : List ℕ) (read places : ℕ) : Type 0 where
  pub ledger : LedgerFit rows table keys
  pub reading : ReadFit patterns order read places

pub record SymbolFit (patterns : List ℕ) (row : ℕ) : Type 0 where
  pub few : row < most_patterns
  pub inside : row < pattern_count patterns
  pub symbol : pattern_kind_in patterns row ≡ 4 → ⊥
  pub placed : PlacedAt patterns (row * pattern_size + 3) (pattern_count_in patterns row) row

pub record VariableFit (patterns : List ℕ) (row : ℕ) : Type 0 where
  pub inside : row < pattern_count patterns
  pub low : head_in patterns row < most_variables

-- the value of the first row read that is a symbol over some values, whatever it would be without one
pub record Met (ps : List Pattern) (f : ℕ) (ns values done : List ℕ) (r : Option ℕ) : Type 0 where
  pub so : (d : ℕ) → unwrap_or r d ≡ met ps f ns values d done

abbrev pub state_of : List ℕ → List ℕ → ℕ → Numbering
state_of values order read = record { numbers = values; done = take read order }

-- the value of a symbol over some values: that of a context row, else that of a row read, else one of its own
abbrev pub look_of : List Row → (ℕ → ℕ) → List Pattern → ℕ → List ℕ → List ℕ → List ℕ → ℕ → ℕ
look_of rows rep ps f ns values done row = held rep f ns (met ps f ns values (65536 + row) done) 0 rows

module _ (rows : List Row) (rep : ℕ → ℕ) (ps : List Pattern) (order chosen values : List ℕ) where
  unfoldable pub term_of : ℕ → ℕ → ℕ
  term_of read row = number_of rows rep 65536 ps chosen (state_of values order read) (65536 + row) (pattern_at ps row)

  unfoldable pub read_of : ℕ → ℕ → List ℕ
  read_of from to = (number rows rep 65536 ps chosen (state_of values order from) (slice from to order)).numbers

-- ---- by runs

abbrev pub look_in : List ℕ → List ℕ → List ℕ → ℕ → List ℕ → List ℕ → List ℕ → ℕ → ℕ
look_in rows table patterns row args values order read =
    look_of (rows_of rows) (rep_at table) (patterns_of patterns) (head_in patterns row) args values (take read order) row

-- from a place of the order to its end
abbrev pub read_in : List ℕ → List ℕ → List ℕ → List ℕ → List ℕ → List ℕ → ℕ → List ℕ
read_in rows table patterns order chosen values from = read_of (rows_of rows) (rep_at table) (patterns_of patterns) order chosen values from (length order)
