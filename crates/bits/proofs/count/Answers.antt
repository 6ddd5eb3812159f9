-- `bits::count` meets its contract.
-- Assumes nothing.
use Rattle.bits.proofs.Words.{ones-size}
use Rattle.bits.proofs.count.Goals as goal

pub returns : goal.returns
returns c = ones-size c.args.x c.ranges.x.fits
