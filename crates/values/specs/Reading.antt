-- Pattern rows read in an order: what the reading asks of its columns, and what it gives.
--     Listed, Asked               rows of an order that have been read; all that a reading asks
--     AskedIn                      the same of what is lent as one
--     state_of                     the values so far and the rows read so far
--     look_of, term_of, read_of      the value of a symbol over values, of one row, and the values after some rows of the order
--     look_in, term_in, read_in      the same of what is lent as one
-- Assumes nothing.
use Rattle.std.specs.Prelude.{true, false, List, ℕ, ◌+◌, ◌*◌, ◌≤◌, ◌<◌, ltb, length, get_or, take}
use Rattle.std.proofs.Math.Seq.{slice}
use Rattle.meaning.specs.Context.{Row}
use Rattle.meaning.specs.Rules.{Pattern}
use Rattle.meaning.specs.Values.{pattern_at, held, met, Numbering, number_of, number}
use Rattle.columns.specs.Fit.{PatternAt}
use Rattle.plan.specs.Planning.{RuleFit}
use Rattle.values.specs.Chains.{LedgerFit}
use Rattle.values.specs.declared.value.Reading.{Reading}
use Rattle.meaning.specs.Equality.{rep_at}
use Rattle.columns.specs.Lent.{rows_in, patterns_in}

-- pattern row q can be compared with so many values
pub record Shaped (shapes heads arities subs : List ℕ) (q count : ℕ) : Type 0 where
  pub inside : q < 64
  pub long : (q + 1) * 4 ≤ length subs
  pub pattern : PatternAt shapes heads arities subs q
  pub few : count ≤ 4

-- the first places of an order name pattern rows
pub record Listed (order : List ℕ) (read patterns : ℕ) : Type 0 where
  pub long : read ≤ length order
  pub short : read ≤ 64
  pub rows : (j : ℕ) → j < read → get_or order j 0 < patterns

pub record Asked (symbols counts args : List ℕ) (rows : ℕ) (first next shapes heads arities subs : List ℕ) (patterns : ℕ) (order : List ℕ) (read : ℕ) : Type 0 where
  pub ledger : LedgerFit symbols counts args rows first next
  pub rule : RuleFit shapes heads arities subs patterns
  pub listed : Listed order read patterns

abbrev pub state_of : List ℕ → List ℕ → ℕ → Numbering
state_of values order read = record { numbers = values; done = take read order }

-- the value of a symbol over some values: that of a context row, else that of a row read, else one of its own
abbrev pub look_of : List Row → (ℕ → ℕ) → List Pattern → ℕ → List ℕ → List ℕ → List ℕ → ℕ → ℕ
look_of rows rep ps f ns values done row = held rep f ns (met ps f ns values (65536 + row) done) 0 rows

module _ (rows : List Row) (rep : ℕ → ℕ) (ps : List Pattern) (order chosen values : List ℕ) where
  -- rows before the fresh one come from the list
  unfoldable pub term_of : ℕ → ℕ → ℕ → ℕ
  term_of read fresh row =
      elim (ltb row fresh) [
        | true ↦ get_or values row 0
        | false ↦ number_of rows rep 65536 ps chosen (state_of values order read) (65536 + row) (pattern_at ps row)
      ]

  unfoldable pub read_of : ℕ → ℕ → List ℕ
  read_of from to = (number rows rep 65536 ps chosen (state_of values order from) (slice from to order)).numbers

abbrev pub AskedIn : Reading → ℕ → Type 0
AskedIn r =
    Asked r.ledger.terms.symbols.now r.ledger.terms.counts.now r.ledger.terms.args.now r.ledger.terms.rows r.ledger.chains.now.first r.ledger.chains.now.next
    r.patterns.kinds.now r.patterns.heads.now r.patterns.counts.now r.patterns.args.now r.patterns.rows r.order.now

-- the value of symbol row `row` over values
abbrev pub look_in : Reading → List ℕ → List ℕ → ℕ → ℕ → ℕ
look_in r wanted values read row =
    look_of (rows_in r.ledger.terms) (rep_at r.ledger.table.now) (patterns_in r.patterns) (get_or r.patterns.heads.now row 0)
    (take (get_or r.patterns.counts.now row 0) wanted) values (take read r.order.now) row

abbrev pub term_in : Reading → List ℕ → List ℕ → ℕ → ℕ → ℕ → ℕ
term_in r chosen values = term_of (rows_in r.ledger.terms) (rep_at r.ledger.table.now) (patterns_in r.patterns) r.order.now chosen values

abbrev pub read_in : Reading → List ℕ → List ℕ → ℕ → ℕ → List ℕ
read_in r chosen values = read_of (rows_in r.ledger.terms) (rep_at r.ledger.table.now) (patterns_in r.patterns) r.order.now chosen values
