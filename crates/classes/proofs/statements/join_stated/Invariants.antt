-- `classes::statements::join_stated` meets its contract. The invariant: the first k statements are done.
-- Assumes nothing.
use Rattle.classes.proofs.Stated.{Stating}
use Rattle.runs.specs.Runs.{said_count}
use Rattle.classes.specs.Steps.{state_step}
use Rattle.classes.proofs.statements.join_stated.Given as goal

abbrev pub invariant-loop-k : goal.invariant-loop-k
invariant-loop-k l = Stating (state_step l.said) (said_count l.said) l.k-end l.initial.table l.table l.k
