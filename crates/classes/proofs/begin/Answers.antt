-- `classes::begin` meets its contract: after the stated equations the sides of each have one representative.
-- Assumes nothing.
use Rattle.classes.proofs.Rounds.{mine}
use Rattle.classes.proofs.begin.Goals as goal

pub sum-requires : goal.sum-requires
sum-requires c = search mine

pub returns : goal.returns
returns c = search mine
