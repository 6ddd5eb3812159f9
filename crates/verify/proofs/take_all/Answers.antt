-- `verify::take_all` meets its contract: a piece more was taken in, or the last, or no turn is left.
-- Assumes nothing.
use Rattle.verify.proofs.Runs.{going_next, all-ended, mine}
use Rattle.verify.proofs.take_all.Goals as goal

pub loop-init : goal.loop-init
loop-init g c = search mine

pub loop-preserved : goal.loop-preserved
loop-preserved g c = going_next c.loop.invariant _ _ _ _ c.in-More.is c.in_ok-p.ensures

pub returns-in-Ended : goal.returns-in-Ended
returns-in-Ended g c = all-ended c.loop.invariant _ _ _ _ c.in-Ended.is c.in_ok-p.ensures

pub returns : goal.returns
returns g c = search mine
