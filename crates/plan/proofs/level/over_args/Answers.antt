use mathlib.Core.Path.{refl}
use Rattle.meaning.specs.Values.{highest}
use Rattle.plan.proofs.Levels.{highest-next, highest-done}
use native.Mathlib.Omega.{arith}
use Rattle.plan.proofs.level.over_args.Goals as goal

pub loop-k-init : goal.loop-k-init
unfolding highest
loop-k-init c = (c.from-n.ensures, refl)

pub overflow_mul-i : goal.overflow_mul-i
overflow_mul-i c = omega (arith, c.requires.inside, c.requires.placed.few, c.from-n.ensures)

pub overflow_add-i : goal.overflow_add-i
overflow_add-i c = omega (arith, c.requires.inside, c.requires.placed.few)

pub offset_bounds-patterns-i : goal.offset_bounds-patterns-i
offset_bounds-patterns-i c = omega (arith, c.requires.inside, c.requires.placed.few)

pub bounds-patterns-i : goal.bounds-patterns-i
bounds-patterns-i c = omega (arith, c.requires.inside, c.requires.placed.few)

pub bounds-column-from : goal.bounds-column-from
bounds-column-from c = omega (arith, c.requires.inside, c.from.ensures, c.requires.placed.earlier.each c.loop-k.k (omega arith))

pub loop-k-preserved : goal.loop-k-preserved
loop-k-preserved c = (c.loop-k.invariant.0, highest-next c.args.column.now _ _ _ c.requires _ _ _ _ (omega arith) c.loop-k.invariant.1 c.from.ensures c.max-most.ensures)

pub returns : goal.returns
returns c = highest-done c.args.column.now _ _ _ c.requires c.loop-k.k _ (omega arith) c.loop-k.invariant.1
