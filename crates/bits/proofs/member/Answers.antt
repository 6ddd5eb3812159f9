-- `bits::member` meets its contract.
-- Assumes nothing.
use Rattle.bits.specs.Sets.{has}
use Rattle.bits.proofs.member.Goals as goal

pub returns : goal.returns
unfolding has
returns c = c.bit.ensures
