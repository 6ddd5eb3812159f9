-- What a reading asks and gives, of the runs that are lent to it as one struct: the words of `Reading` over it.
--     Asked                    all that a reading asks
--     look_in, value_in, read_in    the value of a symbol over values, of one row, and the values after the rows from a place of the order on
-- Assumes nothing.
use Rattle.std.specs.Prelude.{List, ℕ}
use Rattle.meaning.specs.Equality.{rep_at}
use Rattle.runs.specs.Runs.{rows_of, patterns_of}
use Rattle.search_values.specs.Reading.{term_of, Asked as AskedOver, look_in as look_over, read_in as read_over}
use Rattle.search_values.specs.declared.Reading.{Reading}

abbrev pub Asked : Reading → ℕ → ℕ → Type 0
Asked s read places = AskedOver s.ledger.rows.now s.ledger.table.now s.ledger.keys.now s.patterns.now s.order.now read places

abbrev pub look_in : Reading → ℕ → List ℕ → List ℕ → ℕ → ℕ
look_in s row args values read = look_over s.ledger.rows.now s.ledger.table.now s.patterns.now row args values s.order.now read

abbrev pub value_in : Reading → List ℕ → ℕ → ℕ → ℕ
value_in s values read row = term_of (rows_of s.ledger.rows.now) (rep_at s.ledger.table.now) (patterns_of s.patterns.now) s.order.now s.chosen values read row

abbrev pub read_in : Reading → List ℕ → ℕ → List ℕ
read_in s values from = read_over s.ledger.rows.now s.ledger.table.now s.patterns.now s.order.now s.chosen values from
