-- `search_plan::asked::never` meets its contract.
-- Assumes nothing.
use Rattle.search_plan.proofs.Literals.{Allowed}
use Rattle.search_plan.proofs.asked.never.Given as goal

abbrev pub invariant-loop-l : goal.invariant-loop-l
invariant-loop-l l = Allowed l.literals l.n l.l
