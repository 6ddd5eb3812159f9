use mathlib.Core.Path.{refl}
use mathlib.Core.Path.{◌≡◌, subst}
use Rattle.meaning.specs.Columns.{patterns_from}
use Rattle.meaning.specs.Values.{levels as levels_of}
use Rattle.plan.specs.Planning.{Levelled}
use Rattle.plan.proofs.Levels.{rule-row, levels-start, levels-next}
use native.Mathlib.Omega.{arith}
use Rattle.plan.proofs.level.levels.Goals as goal

pub loop-i-init : goal.loop-i-init
loop-i-init c = (omega arith, levels-start _ _ _ _ _ refl)

pub level-requires : goal.level-requires
level-requires c = rule-row c.requires _ c.loop-i-test.true

pub bounds-levels-i : goal.bounds-levels-i
bounds-levels-i c = omega (arith, c.requires.few, c.loop-i.invariant.1.long)

pub loop-i-preserved : goal.loop-i-preserved
loop-i-preserved c = (omega arith, levels-next _ _ _ _ _ _ _ (omega (arith, c.requires.few)) c.loop-i.invariant.1 c.level.ensures)

pub returns : goal.returns
returns c = let e : c.loop-i.i ≡ c.args.patterns.now.rows = omega arith in subst (λ n. Levelled (levels_of (patterns_from c.args.patterns.now.kinds.now c.args.patterns.now.heads.now c.args.patterns.now.counts.now c.args.patterns.now.args.now n)) c.loop-i.levels) e c.loop-i.invariant.1
