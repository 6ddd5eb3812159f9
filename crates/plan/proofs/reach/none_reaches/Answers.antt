use mathlib.Core.Path.{sym, ◌∙◌}
use Rattle.columns.proofs.Deciding.{every-none, every_more}
use Rattle.plan.proofs.Reaching.{none_done, none-fails}
use native.Mathlib.Omega.{arith}
use Rattle.plan.proofs.reach.none_reaches.Goals as goal

pub loop-l-init : goal.loop-l-init
loop-l-init c = every-none

pub reaches-requires : goal.reaches-requires
reaches-requires c = (omega (arith, c.requires.few), c.requires.sides.each _ c.loop-l-test.true)

pub returns-then-reaches : goal.returns-then-reaches
returns-then-reaches c = none-fails _ _ _ _ _ _ c.loop-l-test.true (sym c.reaches.ensures ∙ c.if-reaches.true)

pub loop-l-preserved : goal.loop-l-preserved
loop-l-preserved c = every_more c.loop-l.invariant (sym c.reaches.ensures ∙ c.if-reaches.false)

pub returns : goal.returns
returns c = none_done _ _ _ _ _ _ c.loop-l.invariant c.loop-l-test.false
