-- `classes::wake::follow` meets its contract. The invariant: the rows that met so far.
-- Assumes nothing.
use Rattle.classes.proofs.Nearing.{Meeting}
use Rattle.classes.proofs.wake.follow.Given as goal

abbrev pub invariant-loop-i : goal.invariant-loop-i
invariant-loop-i l = Meeting l.rows l.initial.table l.table
