-- `search_plan::asked::sides` meets its contract.
-- Assumes nothing.
use Rattle.search_plan.proofs.Literals.{mine}
use Rattle.search_plan.proofs.asked.sides.Goals as goal

pub returns-then-idle : goal.returns-then-idle
returns-then-idle c = search mine

pub returns : goal.returns
returns c = search mine
