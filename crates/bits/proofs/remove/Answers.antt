-- `bits::remove` meets its contract. The word has the bit set, and then turned.
-- Assumes nothing.
use Rattle.bits.proofs.Loops.{mine}
use Rattle.bits.proofs.remove.Goals as goal

pub returns : goal.returns
returns c = search mine
