-- `search_pairs::prepare::Ledger::beside_row` meets its contract. The invariant: each row before s is done.
-- Assumes nothing.
use Rattle.search_pairs.specs.Prepare.{BesideRow}
use Rattle.search_pairs.proofs.prepare.Ledger.beside_row.Given as goal

abbrev pub invariant-loop-s : goal.invariant-loop-s
invariant-loop-s l = BesideRow l.self.n l.self.rows.now l.self.table.now l.r l.s l.initial.sets l.sets
