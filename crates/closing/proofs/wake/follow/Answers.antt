-- `wake::follow` meets its contract.
-- Assumes nothing.
use Rattle.closing.proofs.Nearing.{meeting-next}
use Rattle.closing.proofs.wake.follow.Goals as goal

pub loop-i-preserved : goal.loop-i-preserved
loop-i-preserved c = meeting-next (meeting-next c.loop-i.invariant c.meet.ensures) c.drain.ensures
