use mathlib.Core.Path.{refl}
use Rattle.plan.proofs.Reaching.{frees-start, frees-next, frees-done}
use native.Mathlib.Omega.{arith}
use Rattle.plan.proofs.reach.free.Goals as goal

pub loop-v-init : goal.loop-v-init
loop-v-init c = frees-start _ _ refl

pub bounds-free-from : goal.bounds-free-from
bounds-free-from c = omega (arith, c.from.ensures, c.loop-v.invariant.long)

pub loop-v-preserved : goal.loop-v-preserved
loop-v-preserved c = frees-next _ _ _ _ _ c.loop-v-test.true c.loop-v.invariant c.from.ensures c.free_at.ensures

pub returns : goal.returns
returns c = frees-done _ _ _ c.loop-v.invariant c.loop-v-test.false
