-- `search_pairs::prepare::Ledger::live_pass` meets its contract. The invariant: the rows from r on have been looked at, and where nothing was added each of them is as it should be.
-- Assumes nothing.
use Rattle.search_pairs.proofs.Living.{Passing}
use Rattle.search_pairs.proofs.prepare.Ledger.live_pass.Given as goal

abbrev pub invariant-loop-r : goal.invariant-loop-r
invariant-loop-r l = Passing l.self.n l.self.rows.now l.self.table.now l.r l.initial.sets l.sets l.added
