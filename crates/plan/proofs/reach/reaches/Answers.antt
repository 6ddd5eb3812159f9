-- `plan::reach::reaches` meets its contract.
-- Assumes nothing.
use Rattle.plan.proofs.Reaching.{reach-idle, reach-asked}
use Rattle.plan.proofs.reach.reaches.Goals as goal

pub returns-then-idle : goal.returns-then-idle
returns-then-idle c = reach-idle _ _ _ _ _ c.idle.ensures c.if-idle.true

pub returns : goal.returns
returns c = reach-asked _ _ _ _ _ c.idle.ensures _ _ _ c.if-idle.false c.from.ensures c.from-2.ensures c.either.ensures
