-- `further::busy::mark_sides` meets its contract. The invariant: the sides of the first k statements are marked. The measure is what is left of them.
-- Assumes nothing.
use Rattle.further.proofs.Raising.{Siding}
use Rattle.further.proofs.busy.mark_sides.Given as goal

abbrev pub invariant-loop-k : goal.invariant-loop-k
invariant-loop-k l = Siding l.statements.kinds.now l.statements.lefts.now l.statements.rights.now l.statements.count l.table l.initial.marks l.marks l.k
