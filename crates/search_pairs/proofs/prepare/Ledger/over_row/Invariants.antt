-- `search_pairs::prepare::Ledger::over_row` meets its contract. The invariant: the row is over the classes of its arguments before k.
-- Assumes nothing.
use Rattle.search_pairs.specs.Prepare.{OverRow}
use Rattle.search_pairs.proofs.prepare.Ledger.over_row.Given as goal

abbrev pub invariant-loop-k : goal.invariant-loop-k
invariant-loop-k l = OverRow l.self.n l.self.rows.now l.self.table.now l.r l.k l.initial.sets l.sets
