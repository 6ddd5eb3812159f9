-- `plan::reach::idle` meets its contract.
-- Assumes nothing.
use Rattle.plan.proofs.Reaching.{idle-unequal, idle-equal}
use mathlib.Core.Path.{◌∙◌}
use borrow.Author.Tests.{ne_eqb}
use Rattle.plan.proofs.reach.idle.Goals as goal

pub returns-then-sign-eq6 : goal.returns-then-sign-eq6
returns-then-sign-eq6 c = idle-equal _ _ _ c.if-sign-eq6.true

pub returns-else-sign-eq6 : goal.returns-else-sign-eq6
returns-else-sign-eq6 c = ne_eqb _ _ c.if-sign-eq6.false ∙ idle-unequal _ _ _ c.if-sign-eq6.false
