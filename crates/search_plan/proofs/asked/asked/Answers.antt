use Rattle.search_plan.proofs.Literals.{mine}
use Rattle.search_plan.proofs.asked.asked.Goals as goal

pub loop-l-init : goal.loop-l-init
loop-l-init c = search mine

pub loop-l-preserved : goal.loop-l-preserved
loop-l-preserved c = search mine

pub returns : goal.returns
returns c = search mine
