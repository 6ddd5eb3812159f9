use Rattle.search_plan.proofs.Growing.{mine}
use Rattle.search_plan.proofs.reach.sets.Goals as goal

pub loop-i-init : goal.loop-i-init
loop-i-init c = search mine

pub set_of-x-requires : goal.set_of-x-requires
set_of-x-requires c = search mine

pub loop-i-preserved : goal.loop-i-preserved
loop-i-preserved c = search mine

pub returns : goal.returns
returns c = search mine
