-- `grounds_verdict::steps::Grounds::differs` meets its contract. A difference that is there is read, and the step has to have its two sides.
-- Assumes nothing.
use Rattle.grounds_verdict.proofs.Concluding.{mine}
use Rattle.grounds_verdict.proofs.steps.Grounds.differs.Goals as goal

pub returns-in_default : goal.returns-in_default
returns-in_default c = search mine

pub returns : goal.returns
returns c = search mine
