-- `closing::apart` meets its contract. The invariant: none of the first k statements keeps the classes apart. The measure is what is left of the statements.
-- Assumes nothing.
use Rattle.closing.proofs.Clashes.{Parting}
use Rattle.closing.proofs.apart.Given as goal

abbrev pub invariant-loop-k : goal.invariant-loop-k
invariant-loop-k l = Parting l.statements.kinds.now l.statements.lefts.now l.statements.rights.now l.statements.count l.table l.a l.b l.k
