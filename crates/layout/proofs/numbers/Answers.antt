-- `numbers` meets its contract: a column that was all zeros is filled up to the last piece.
-- Assumes nothing.
use Prim.Native.Nat.{ℕ}
use mathlib.Core.Path.{refl}
use native.Mathlib.Omega.{arith}
use lib.ListN.{length-replicate}
use Rattle.layout.proofs.Laying.{laid-start, column-next, laid_done, padded}
use Rattle.layout.proofs.numbers.Goals as goal

pub loop-i-init : goal.loop-i-init
loop-i-init g c = laid-start _ _ _ (omega (arith, c.requires.room, length-replicate {A = ℕ} g.row.N 0))

pub loop-i-preserved : goal.loop-i-preserved
loop-i-preserved g c = column-next _ _ _ _ _ _ _ c.loop-i-test.true _ c.number_in.ensures c.loop-i.invariant

pub returns : goal.returns
returns g c = padded _ _ _ _ _ refl (laid_done _ _ _ _ _ c.loop-i.invariant c.loop-i-test.false)
