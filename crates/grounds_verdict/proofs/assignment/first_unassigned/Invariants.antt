-- `grounds_verdict::assignment::first_unassigned` meets its contract. The invariant: every variable passed has a row.
-- Assumes nothing.
use Rattle.meaning.specs.Checking.{assigned_by}
use Rattle.grounds_verdict.proofs.Running.{Running}
use Rattle.grounds_verdict.proofs.assignment.first_unassigned.Given as goal

abbrev pub invariant-loop-v : goal.invariant-loop-v
invariant-loop-v l = Running (assigned_by l.rows l.asg) l.n l.v
