-- `bits::low` meets its contract.
-- Assumes nothing.
use mathlib.Core.Path.{refl}
use Rattle.bits.proofs.Words.{low_below, low-lowest}
use Rattle.bits.proofs.low.Goals as goal

pub returns : goal.returns
returns c = (low_below c.args.x c.requires c.ranges.x.fits, low-lowest c.args.x c.requires c.ranges.x.fits, refl)
