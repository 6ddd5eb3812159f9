-- `search_plan::reach::sets` meets its contract.
-- Assumes nothing.
use Rattle.search_plan.specs.Sets.{set_of}
use Rattle.search_plan.proofs.Growing.{Grown}
use Rattle.search_plan.proofs.reach.sets.Given as goal

abbrev pub invariant-loop-i : goal.invariant-loop-i
invariant-loop-i l = Grown set_of l.patterns l.sets l.n l.i
