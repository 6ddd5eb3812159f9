-- `classes::clash` meets its contract. The invariant: no difference among the first k statements clashes, and n is their number.
-- Assumes nothing.
use Rattle.classes.proofs.Clashes.{Clearing}
use Rattle.classes.proofs.clash.Given as goal

abbrev pub invariant-loop-k : goal.invariant-loop-k
invariant-loop-k l = Clearing l.said l.k-end l.table l.n l.k
