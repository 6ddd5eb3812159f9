-- `search_sets::rising::Symbols::gather` meets its contract.
-- Assumes nothing.
use Rattle.search_sets.proofs.Gathering.{Gathering}
use Rattle.search_sets.proofs.rising.Symbols.gather.Given as goal

abbrev pub invariant-loop-i : goal.invariant-loop-i
invariant-loop-i l = Gathering l.self.rows.now l.self.table.now l.self.patterns.now l.initial.sets l.sets l.self.width l.p l.n l.i l.found
