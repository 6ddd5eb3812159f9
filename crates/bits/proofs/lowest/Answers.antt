use mathlib.Core.Path.{refl}
use Rattle.bits.proofs.Loops.{mine, low-some}
use Rattle.bits.proofs.lowest.Goals as goal

pub returns-then-x-gt0 : goal.returns-then-x-gt0
returns-then-x-gt0 c = low-some _ _ _ _ _ _ _ (search mine) (search mine) (search mine) c.low.ensures refl

pub returns : goal.returns
returns c = search mine
