use mathlib.Core.Path.{sym, ◌∙◌}
use Rattle.columns.proofs.Deciding.{every-none, every_more}
use Rattle.plan.proofs.Reaching.{never-none, never-some}
use Rattle.plan.proofs.reach.never.Goals as goal

pub loop-l-init : goal.loop-l-init
loop-l-init c = every-none

pub returns-then-self_unequal : goal.returns-then-self_unequal
returns-then-self_unequal c = never-some _ _ _ _ _ c.loop-l-test.true (sym c.self_unequal.ensures ∙ c.if-self_unequal.true)

pub loop-l-preserved : goal.loop-l-preserved
loop-l-preserved c = every_more c.loop-l.invariant (sym c.self_unequal.ensures ∙ c.if-self_unequal.false)

pub returns : goal.returns
returns c = never-none _ _ _ _ _ c.loop-l.invariant c.loop-l-test.false
