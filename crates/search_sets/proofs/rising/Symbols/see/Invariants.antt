-- `search_sets::rising::Symbols::see` meets its contract.
-- Assumes nothing.
use Rattle.search_sets.proofs.Seeing.{Seeing}
use Rattle.search_sets.proofs.rising.Symbols.see.Given as goal

abbrev pub invariant-loop-i : goal.invariant-loop-i
invariant-loop-i l = Seeing l.self.rows.now l.self.table.now l.self.patterns.now l.sets l.initial.scratch l.scratch l.self.width l.p l.n l.i l.found
