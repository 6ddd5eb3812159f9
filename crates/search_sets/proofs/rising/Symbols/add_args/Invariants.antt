-- `search_sets::rising::Symbols::add_args` meets its contract.
-- Assumes nothing.
use Rattle.search_sets.proofs.Seeing.{Adding}
use Rattle.search_sets.proofs.rising.Symbols.add_args.Given as goal

abbrev pub invariant-loop-k : goal.invariant-loop-k
invariant-loop-k l = Adding l.self.rows.now l.self.table.now l.initial.scratch l.scratch l.self.width l.i l.n l.k
