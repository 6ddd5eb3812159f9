use native.Mathlib.Omega.{arith}
use Rattle.columns.proofs.Deciding.{every_more}
use Rattle.columns.proofs.named.Goals as goal

pub loop-j-preserved : goal.loop-j-preserved
loop-j-preserved c = every_more c.loop-j.invariant (record { left = omega arith; right = omega arith })
