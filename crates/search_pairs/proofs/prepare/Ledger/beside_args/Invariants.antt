-- `search_pairs::prepare::Ledger::beside_args` meets its contract. The invariant: the arguments before k stand beside each other.
-- Assumes nothing.
use Rattle.search_pairs.specs.Prepare.{BesideArgs}
use Rattle.search_pairs.proofs.prepare.Ledger.beside_args.Given as goal

abbrev pub invariant-loop-k : goal.invariant-loop-k
invariant-loop-k l = BesideArgs l.self.n l.self.rows.now l.self.table.now l.r l.s l.k l.initial.sets l.sets
