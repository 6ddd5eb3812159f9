-- `grounds_verdict::assignment::variables` meets its contract. The invariant: n is the number of variables of the rows passed.
-- Assumes nothing.
use Rattle.grounds_verdict.proofs.Assigning.{Counting}
use Rattle.grounds_verdict.proofs.assignment.variables.Given as goal

abbrev pub invariant-loop-p : goal.invariant-loop-p
invariant-loop-p l = Counting l.patterns l.p l.n
