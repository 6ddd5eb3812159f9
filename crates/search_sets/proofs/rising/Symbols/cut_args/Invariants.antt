-- `search_sets::rising::Symbols::cut_args` meets its contract.
-- Assumes nothing.
use Rattle.search_sets.proofs.Sunk.{Cutting}
use Rattle.search_sets.proofs.rising.Symbols.cut_args.Given as goal

abbrev pub invariant-loop-k : goal.invariant-loop-k
invariant-loop-k l = Cutting l.self.patterns.now l.scratch l.initial.sets l.sets l.self.width l.p l.n l.k
