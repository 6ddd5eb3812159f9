-- `plan::reach::free_at` meets its contract.
-- Assumes nothing.
use Rattle.plan.proofs.Reaching.{free-at}
use Rattle.plan.proofs.reach.free_at.Goals as goal

pub returns : goal.returns
returns c = free-at _ _ _ _ _ _ _ _ _ _ _ _ _ c.marks-marks.ensures c.none_reaches.ensures c.digit.ensures
