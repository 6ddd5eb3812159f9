use mathlib.Core.Path.{◌≡◌, ap, ◌∙◌}
use Rattle.meaning.specs.Rules.{variables}
use Rattle.meaning.specs.Columns.{patterns_from}
use Rattle.plan.proofs.Levels.{variables-start, variables-next}
use native.Mathlib.Omega.{arith}
use Rattle.plan.proofs.level.variables.Goals as goal

pub loop-i-init : goal.loop-i-init
loop-i-init c = (omega arith, variables-start _ _ _ _)

pub reached-requires : goal.reached-requires
reached-requires c = (omega (arith, c.requires.few), (c.requires.written.placed.each _ c.loop-i-test.true).variable)

pub loop-i-preserved : goal.loop-i-preserved
loop-i-preserved c = (omega arith, variables-next _ _ _ _ _ _ _ _ c.loop-i.invariant.1 c.reached.ensures c.max-most.ensures)

pub returns : goal.returns
returns c = let e : c.loop-i.i ≡ c.args.patterns.now.rows = omega arith in c.loop-i.invariant.1 ∙ ap (λ x. variables (patterns_from c.args.patterns.now.kinds.now c.args.patterns.now.heads.now c.args.patterns.now.counts.now c.args.patterns.now.args.now x)) e
