-- `classes::wake::Waking::drain` meets its contract. The invariant: the rows that met so far.
-- Assumes nothing.
use Rattle.classes.proofs.Nearing.{Meeting}
use Rattle.classes.proofs.wake.Waking.drain.Given as goal

abbrev pub invariant-loop : goal.invariant-loop
invariant-loop l = Meeting l.rows l.initial.table l.table
