-- `bits::rest` meets its contract.
-- Assumes nothing.
use Rattle.bits.proofs.Words.{drop-has}
use Rattle.bits.proofs.rest.Goals as goal

pub returns : goal.returns
returns c = drop-has c.args.x c.requires c.ranges.x.fits
