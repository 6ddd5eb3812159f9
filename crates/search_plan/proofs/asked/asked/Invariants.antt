-- `search_plan::asked::asked` meets its contract.
-- Assumes nothing.
use Rattle.search_plan.proofs.Literals.{Reached}
use Rattle.search_plan.proofs.asked.asked.Given as goal

abbrev pub invariant-loop-l : goal.invariant-loop-l
invariant-loop-l l = Reached l.literals l.sets l.n l.all l.l
