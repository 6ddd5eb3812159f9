use Rattle.classes.proofs.Tables.{mine, summing-next}
use native.Mathlib.Omega.{arith}
use Rattle.classes.proofs.table.sum.Goals as goal

pub loop-place-init : goal.loop-place-init
loop-place-init c = search mine

pub loop-place-preserved : goal.loop-place-preserved
loop-place-preserved c =
    summing-next c.loop-place.invariant c.loop-place-test.true c.from-s.ensures (omega (arith, c.from-s.ensures, c.type_inv.table c.loop-place.place-index))
