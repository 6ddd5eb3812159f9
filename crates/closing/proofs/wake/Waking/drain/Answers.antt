-- `wake::Waking::drain` meets its contract.
-- Assumes nothing.
use Rattle.closing.proofs.Nearing.{meeting-next}
use Rattle.closing.proofs.wake.Waking.drain.Goals as goal

pub loop-preserved : goal.loop-preserved
loop-preserved c = meeting-next c.loop.invariant c.meet.ensures
