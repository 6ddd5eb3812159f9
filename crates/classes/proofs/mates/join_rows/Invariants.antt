-- `classes::mates::join_rows` meets its contract. The invariant: the first i rows are done and stand on their chains.
-- Assumes nothing.
use Rattle.classes.proofs.Chains.{Passing}
use Rattle.classes.proofs.mates.join_rows.Given as goal

abbrev pub invariant-loop-i : goal.invariant-loop-i
invariant-loop-i l = Passing l.rows l.i-end l.initial.table l.table l.heads l.next l.i
