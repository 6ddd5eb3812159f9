-- `few` meets its contract: all, or the most.
-- Assumes nothing.
use Rattle.records.proofs.Filling.{mine}
use Rattle.records.proofs.laying.few.Goals as goal

pub returns : goal.returns
returns c = search mine
