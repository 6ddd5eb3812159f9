-- `search_plan::asked::self_unequal` meets its contract.
-- Assumes nothing.
use Rattle.search_plan.proofs.Literals.{mine}
use Rattle.search_plan.proofs.asked.self_unequal.Goals as goal

pub returns-then-not-is_equal : goal.returns-then-not-is_equal
returns-then-not-is_equal c = search mine

pub returns-else-not-is_equal : goal.returns-else-not-is_equal
returns-else-not-is_equal c = search mine
