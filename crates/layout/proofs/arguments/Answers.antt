-- `arguments` meets its contract: a column that was all zeros is filled up to the last piece.
-- Assumes nothing.
use Prim.Native.Nat.{ℕ}
use mathlib.Core.Path.{refl}
use native.Mathlib.Omega.{arith}
use lib.ListN.{length-replicate}
use Rattle.layout.proofs.Laying.{laid-start, arg-next, laid_done, padded}
use Rattle.layout.proofs.arguments.Goals as goal

pub loop-x-init : goal.loop-x-init
loop-x-init g c = laid-start _ _ _ (omega (arith, c.requires.room, length-replicate {A = ℕ} g.row.N 0))

pub loop-x-preserved : goal.loop-x-preserved
loop-x-preserved g c = arg-next _ _ _ _ _ _ _ c.loop-x-test.true _ c.number_in.ensures c.loop-x.invariant

pub returns : goal.returns
returns g c = padded _ _ _ _ _ refl (laid_done _ _ _ _ _ c.loop-x.invariant c.loop-x-test.false)
