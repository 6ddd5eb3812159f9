-- `search_sets::rising::Symbols::args_fit` meets its contract.
-- Assumes nothing.
use Rattle.search_sets.proofs.Symbols.{FitsTo}
use Rattle.search_sets.proofs.rising.Symbols.args_fit.Given as goal

abbrev pub invariant-loop-k : goal.invariant-loop-k
invariant-loop-k l = FitsTo l.self.rows.now l.self.table.now l.self.patterns.now l.sets l.self.width l.p l.i l.n l.k
