use Rattle.records.proofs.Filling.{mine}
use Rattle.records.proofs.laying.patterns_run.Goals as goal

pub loop-i-init : goal.loop-i-init
loop-i-init c = search mine

pub loop-i-preserved : goal.loop-i-preserved
loop-i-preserved c = search mine

pub returns : goal.returns
returns c = search mine
