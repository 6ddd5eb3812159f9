-- `bits::bit` meets its contract.
-- Assumes nothing.
use Rattle.bits.proofs.Words.{read_has}
use Rattle.bits.proofs.bit.Goals as goal

pub returns : goal.returns
returns c = read_has c.args.x c.args.j
