-- `grounds_verdict::citing::Citing::cites` meets its contract. A step that is not among the first is not cited; another is by its owner and its two sides.
-- Assumes nothing.
use Rattle.grounds_verdict.proofs.Numbers.{mine}
use Rattle.grounds_verdict.proofs.citing.Citing.cites.Goals as goal

pub returns-in_default : goal.returns-in_default
returns-in_default c = search mine

pub returns-then-left-l : goal.returns-then-left-l
returns-then-left-l c = search mine

pub returns-else-left-l : goal.returns-else-left-l
returns-else-left-l c = search mine
