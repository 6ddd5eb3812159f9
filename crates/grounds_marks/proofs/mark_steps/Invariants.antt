-- `grounds_marks::mark_steps` meets its contract. The invariant: the steps from step i on have marked what they cite.
-- Assumes nothing.
use Rattle.grounds_marks.proofs.Marking.{Back}
use Rattle.grounds_marks.proofs.mark_steps.Given as goal

abbrev pub invariant-loop-i : goal.invariant-loop-i
invariant-loop-i l = Back l.cells l.n l.initial.marks l.marks l.i
