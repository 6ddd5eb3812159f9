-- `many` meets its contract: all, or one more than the most.
-- Assumes nothing.
use Rattle.records.proofs.Filling.{mine}
use Rattle.records.proofs.laying.many.Goals as goal

pub returns : goal.returns
returns c = search mine
