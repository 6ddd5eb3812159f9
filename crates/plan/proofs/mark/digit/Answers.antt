-- `plan::mark::digit` meets its contract.
-- Assumes nothing.
use Rattle.plan.proofs.Marks.{mark-true, mark-false}
use Rattle.plan.proofs.mark.digit.Goals as goal

pub returns-then-b : goal.returns-then-b
returns-then-b c = mark-true _ c.if-b.true

pub returns-else-b : goal.returns-else-b
returns-else-b c = mark-false _ c.if-b.false
