-- `search_plan::asked::idle` meets its contract.
-- Assumes nothing.
use Rattle.search_plan.proofs.Literals.{mine}
use Rattle.search_plan.proofs.asked.idle.Goals as goal

pub returns-then-is_equal : goal.returns-then-is_equal
returns-then-is_equal c = search mine

pub returns-else-is_equal : goal.returns-else-is_equal
returns-else-is_equal c = search mine
