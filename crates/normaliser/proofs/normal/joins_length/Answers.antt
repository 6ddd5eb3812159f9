use Rattle.normaliser.proofs.Pairs.{mine}
use Rattle.normaliser.proofs.normal.joins_length.Goals as goal

pub loop-i-init : goal.loop-i-init
loop-i-init c = search mine

pub loop-i-preserved : goal.loop-i-preserved
loop-i-preserved c = search mine
