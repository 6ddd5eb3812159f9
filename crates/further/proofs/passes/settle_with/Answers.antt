-- `further::passes::settle_with` meets its contract. The merge of the two rows leaves the table underway, by what the table says and their equation, and the passes end it.
-- Assumes nothing.
use Rattle.further.proofs.Turns.{mine}
use Rattle.further.proofs.passes.settle_with.Goals as goal

pub turns-requires : goal.turns-requires
turns-requires c = search mine

pub returns : goal.returns
returns c = search mine
