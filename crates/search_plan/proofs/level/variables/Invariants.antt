-- `search_plan::level::variables` meets its contract.
-- Assumes nothing.
use Rattle.search_plan.proofs.Growing.{Counted}
use Rattle.search_plan.proofs.level.variables.Given as goal

abbrev pub invariant-loop-i : goal.invariant-loop-i
invariant-loop-i l = Counted l.patterns l.n l.most l.i
