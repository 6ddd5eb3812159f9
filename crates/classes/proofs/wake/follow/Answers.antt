use Rattle.classes.proofs.Nearing.{mine}
use Rattle.classes.proofs.wake.follow.Goals as goal

pub loop-i-preserved : goal.loop-i-preserved
loop-i-preserved c = search mine
