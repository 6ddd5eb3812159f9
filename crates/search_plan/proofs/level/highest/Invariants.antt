-- `search_plan::level::highest` meets its contract.
-- Assumes nothing.
use Rattle.search_plan.proofs.Args.{Topped}
use Rattle.search_plan.proofs.level.highest.Given as goal

abbrev pub invariant-loop-k : goal.invariant-loop-k
invariant-loop-k l = Topped l.patterns l.levels l.i l.n l.most l.k
