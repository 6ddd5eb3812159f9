-- `search_plan::level::levels` meets its contract.
-- Assumes nothing.
use Rattle.meaning.specs.Values.{level_of}
use Rattle.search_plan.proofs.Growing.{Grown}
use Rattle.search_plan.proofs.level.levels.Given as goal

abbrev pub invariant-loop-i : goal.invariant-loop-i
invariant-loop-i l = Grown level_of l.patterns l.levels l.n l.i
