use Rattle.search_plan.proofs.Growing.{mine}
use Rattle.search_plan.proofs.level.variables.Goals as goal

pub pattern_count-n-requires : goal.pattern_count-n-requires
pattern_count-n-requires c = search mine

pub loop-i-init : goal.loop-i-init
loop-i-init c = search mine

pub reached-requires : goal.reached-requires
reached-requires c = search mine

pub loop-i-preserved : goal.loop-i-preserved
loop-i-preserved c = search mine

pub returns : goal.returns
returns c = search mine
