-- `search_pairs::prepare::Ledger::live_args` meets its contract. The invariant: the arguments before k are live, and `added` says whether one was not.
-- Assumes nothing.
use Rattle.search_pairs.specs.Prepare.{LiveArgs}
use Rattle.search_pairs.proofs.prepare.Ledger.live_args.Given as goal

abbrev pub invariant-loop-k : goal.invariant-loop-k
invariant-loop-k l = LiveArgs l.self.n l.self.rows.now l.self.table.now l.r l.k l.initial.sets l.sets l.added
