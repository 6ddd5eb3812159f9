-- `search_plan::level::reached` meets its contract.
-- Assumes nothing.
use Rattle.search_plan.proofs.Args.{mine}
use Rattle.search_plan.proofs.level.reached.Goals as goal

pub returns-then-is_variable : goal.returns-then-is_variable
returns-then-is_variable c = search mine

pub returns : goal.returns
returns c = search mine
