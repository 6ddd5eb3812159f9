-- `search_plan::reach::union` meets its contract.
-- Assumes nothing.
use Rattle.search_plan.proofs.Args.{United}
use Rattle.search_plan.proofs.reach.union.Given as goal

abbrev pub invariant-loop-k : goal.invariant-loop-k
invariant-loop-k l = United l.patterns l.sets l.i l.n l.all l.k
