-- `further::busy::mark_args` meets its contract. The invariant: the classes of the first k arguments are marked. The measure is what is left of them.
-- Assumes nothing.
use Rattle.further.proofs.Raising.{Arguing}
use Rattle.further.proofs.busy.mark_args.Given as goal

abbrev pub invariant-loop-k : goal.invariant-loop-k
invariant-loop-k l = Arguing l.args l.table l.i l.count l.initial.marks l.marks l.k
