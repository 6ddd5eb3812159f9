-- `classes::apart` meets its contract. The invariant: none of the first k statements keeps the classes apart.
-- Assumes nothing.
use Rattle.classes.proofs.Clashes.{Parting}
use Rattle.classes.proofs.apart.Given as goal

abbrev pub invariant-loop-k : goal.invariant-loop-k
invariant-loop-k l = Parting l.said l.k-end l.table l.a l.b l.k
