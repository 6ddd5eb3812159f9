use Rattle.grounds_intake.proofs.Ways.{ends}
use Rattle.grounds_intake.proofs.feed.Goals as goal

pub loop-b-init : goal.loop-b-init
loop-b-init c = search ends

pub loop-b-preserved : goal.loop-b-preserved
loop-b-preserved c = search ends
