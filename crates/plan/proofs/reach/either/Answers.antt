-- `plan::reach::either` meets its contract.
-- Assumes nothing.
use Rattle.plan.proofs.Reaching.{first-marked, second-marked}
use mathlib.Core.Path.{◌∙◌}
use borrow.Author.Tests.{eq-eqb}
use Rattle.plan.proofs.reach.either.Goals as goal

pub returns-then-x-eq1 : goal.returns-then-x-eq1
returns-then-x-eq1 c = eq-eqb _ _ c.if-x-eq1.true ∙ first-marked _ _ c.if-x-eq1.true

pub returns-else-x-eq1 : goal.returns-else-x-eq1
returns-else-x-eq1 c = second-marked _ _ c.if-x-eq1.false
