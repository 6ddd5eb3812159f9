-- `search_pairs::prepare::Ledger::place_rows` meets its contract. The invariant: the rows before r are placed.
-- Assumes nothing.
use Rattle.search_pairs.specs.Prepare.{Placed}
use Rattle.search_pairs.proofs.prepare.Ledger.place_rows.Given as goal

abbrev pub invariant-loop-r : goal.invariant-loop-r
invariant-loop-r l = Placed l.self.n l.self.rows.now l.self.table.now l.r l.initial.sets l.sets
