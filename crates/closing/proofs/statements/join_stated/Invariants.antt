-- `closing::statements::join_stated` meets its contract. The invariant: the first k statements are done. The measure is what is left of the statements.
-- Assumes nothing.
use Rattle.closing.specs.Steps.{state_step}
use Rattle.closing.proofs.Stated.{Stating}
use Rattle.closing.proofs.statements.join_stated.Given as goal

abbrev pub invariant-loop-k : goal.invariant-loop-k
invariant-loop-k l = Stating (state_step l.statements.kinds.now l.statements.lefts.now l.statements.rights.now) l.statements.count l.initial.table l.table l.k
