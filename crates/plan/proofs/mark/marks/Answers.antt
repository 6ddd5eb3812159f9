use mathlib.Core.Path.{refl}
use mathlib.Core.Path.{◌≡◌, subst}
use Rattle.meaning.specs.Columns.{patterns_from}
use Rattle.meaning.specs.Pruning.{touches}
use Rattle.plan.specs.Marks.{Marked}
use Rattle.plan.proofs.Levels.{rule-row}
use Rattle.plan.proofs.Marks.{marks-start, marks-next}
use native.Mathlib.Omega.{arith}
use Rattle.plan.proofs.mark.marks.Goals as goal

pub loop-i-init : goal.loop-i-init
loop-i-init c = (omega arith, marks-start _ _ _ _ _ _ refl)

pub mark-requires : goal.mark-requires
mark-requires c = rule-row c.requires _ c.loop-i-test.true

pub bounds-marks-i : goal.bounds-marks-i
bounds-marks-i c = omega (arith, c.requires.few, c.loop-i.invariant.1.long)

pub loop-i-preserved : goal.loop-i-preserved
loop-i-preserved c = (omega arith, marks-next _ _ _ _ _ _ _ _ (omega (arith, c.requires.few)) c.loop-i.invariant.1 c.mark.ensures)

pub returns : goal.returns
returns c = let e : c.loop-i.i ≡ c.args.patterns.now.rows = omega arith in subst (λ n. Marked (touches c.args.v (patterns_from c.args.patterns.now.kinds.now c.args.patterns.now.heads.now c.args.patterns.now.counts.now c.args.patterns.now.args.now n)) c.loop-i.marks) e c.loop-i.invariant.1
