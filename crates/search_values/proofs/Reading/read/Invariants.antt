-- `search_values::Reading::read` meets its contract. The invariant: what is read from place j on, with the values so far, is what is read from the first place on.
-- Assumes nothing.
use Rattle.meaning.specs.Equality.{rep_at}
use Rattle.runs.specs.Runs.{rows_of, patterns_of}
use Rattle.search_values.proofs.Progress.{Reading}
use Rattle.search_values.proofs.Reading.read.Given as goal

abbrev pub invariant-loop-j : goal.invariant-loop-j
invariant-loop-j l = Reading (rows_of l.self.ledger.rows.now) (rep_at l.self.ledger.table.now) (patterns_of l.self.patterns.now) l.self.order.now l.self.chosen l.initial.values l.from l.values l.n l.j
