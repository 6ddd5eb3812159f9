-- `plan::reach::self_unequal` meets its contract.
-- Assumes nothing.
use Rattle.plan.proofs.Reaching.{self-equal, self-unequal}
use mathlib.Core.Bool.{not}
use mathlib.Core.Path.{ap, ◌∙◌}
use borrow.Author.Tests.{eq-eqb}
use Rattle.plan.proofs.reach.self_unequal.Goals as goal

pub returns-then-sign-ne6 : goal.returns-then-sign-ne6
returns-then-sign-ne6 c = self-unequal _ _ _ c.if-sign-ne6.true

pub returns-else-sign-ne6 : goal.returns-else-sign-ne6
returns-else-sign-ne6 c = ap not (eq-eqb _ _ c.if-sign-ne6.false) ∙ self-equal _ _ _ c.if-sign-ne6.false
