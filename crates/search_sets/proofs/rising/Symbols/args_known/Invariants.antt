-- `search_sets::rising::Symbols::args_known` meets its contract.
-- Assumes nothing.
use Rattle.search_sets.proofs.Arguments.{KnownTo}
use Rattle.search_sets.proofs.rising.Symbols.args_known.Given as goal

abbrev pub invariant-loop-k : goal.invariant-loop-k
invariant-loop-k l = KnownTo l.self.patterns.now l.sets l.self.width l.p l.n l.k
