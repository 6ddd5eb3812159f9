-- `closing::clash` meets its contract. The invariant: no difference among the first k statements clashes, and n is their number. The measure is what is left of the statements.
-- Assumes nothing.
use Rattle.closing.proofs.Clashes.{Clearing}
use Rattle.closing.proofs.clash.Given as goal

abbrev pub invariant-loop-k : goal.invariant-loop-k
invariant-loop-k l = Clearing l.statements.kinds.now l.statements.lefts.now l.statements.rights.now l.statements.count l.table l.n l.k
