-- `search_sets::rising::Symbols::args_fixed` meets its contract.
-- Assumes nothing.
use Rattle.search_sets.proofs.Arguments.{FixedTo}
use Rattle.search_sets.proofs.rising.Symbols.args_fixed.Given as goal

abbrev pub invariant-loop-k : goal.invariant-loop-k
invariant-loop-k l = FixedTo l.self.patterns.now l.sets l.self.width l.p l.n l.k
