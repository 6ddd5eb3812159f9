use Rattle.classes.proofs.Nearing.{mine}
use Rattle.classes.proofs.wake.Waking.drain.Goals as goal

pub loop-preserved : goal.loop-preserved
loop-preserved c = search mine
