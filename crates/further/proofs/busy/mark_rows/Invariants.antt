-- `further::busy::mark_rows` meets its contract. The invariant: the classes of the arguments of the first i rows are marked. The measure is what is left of the rows.
-- Assumes nothing.
use Rattle.further.proofs.Raising.{Rowing}
use Rattle.further.proofs.busy.mark_rows.Given as goal

abbrev pub invariant-loop-i : goal.invariant-loop-i
invariant-loop-i l = Rowing l.terms.counts.now l.terms.args.now l.terms.rows l.table l.initial.marks l.marks l.i
