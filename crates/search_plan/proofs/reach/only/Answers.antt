-- `search_plan::reach::only` meets its contract.
-- Assumes nothing.
use Rattle.search_plan.proofs.Args.{only-is, mine}
use Rattle.search_plan.proofs.reach.only.Goals as goal

pub returns : goal.returns
returns c = only-is _ (search mine)
