-- What a function leaves that says how a literal is shown.
--     Says                    a column, a step and a stated difference are those
--     differing_by, saying_by   what is said for an unequal literal, and for one of a kind, by the keys of all entries and the stated differences as runs
-- Assumes nothing.
use Rattle.std.specs.Prelude.{List, ◌≡◌, ℕ}
use Rattle.runs.specs.Runs.{row_count, rows_of}
use Rattle.grounds_numbers.specs.Pairs.{pairs_in}
use Rattle.grounds_laws.specs.Classes.{State}
use Rattle.grounds_laws.specs.Concluding.{Said, said_differ, said_by}

pub record Says (cells : List ℕ) (first difference : ℕ) (s : Said) : Type 0 where
  pub column : cells ≡ s.cells
  pub step : first ≡ s.first
  pub stated : difference ≡ s.difference

abbrev pub differing_by : List ℕ → List ℕ → ℕ → ℕ → State → Said
differing_by keys pairs x y state = said_differ (row_count keys) (rows_of keys) (pairs_in pairs) x y state

abbrev pub saying_by : List ℕ → List ℕ → ℕ → ℕ → ℕ → State → Said
saying_by keys pairs kind x y state = said_by (row_count keys) (rows_of keys) (pairs_in pairs) kind x y state
