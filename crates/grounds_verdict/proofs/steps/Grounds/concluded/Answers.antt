-- `grounds_verdict::steps::Grounds::concluded` meets its contract. The sign of the literal says which of the conclusion's fields are read, and which steps count.
-- Assumes nothing.
use Rattle.grounds_verdict.proofs.Concluding.{mine}
use Rattle.grounds_verdict.proofs.steps.Grounds.concluded.Goals as goal

pub returns-then-not-is_equal : goal.returns-then-not-is_equal
returns-then-not-is_equal c = search mine

pub returns : goal.returns
returns c = search mine
