use native.Mathlib.Omega.{arith}
use Rattle.columns.proofs.Deciding.{every_more}
use Rattle.columns.proofs.placed.Goals as goal

pub loop-k-preserved : goal.loop-k-preserved
loop-k-preserved c = (c.loop-k.invariant.0, c.loop-k.invariant.1, every_more c.loop-k.invariant.2 (omega arith))
