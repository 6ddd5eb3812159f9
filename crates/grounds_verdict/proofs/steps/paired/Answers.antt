-- `grounds_verdict::steps::paired` meets its contract. A pair that is not there is none; another is by its two sides.
-- Assumes nothing.
use Rattle.grounds_verdict.proofs.Ways.{mine}
use Rattle.grounds_verdict.proofs.steps.paired.Goals as goal

pub returns-in_default : goal.returns-in_default
returns-in_default c = search mine

pub returns-then-first_in-l : goal.returns-then-first_in-l
returns-then-first_in-l c = search mine

pub returns-else-first_in-l : goal.returns-else-first_in-l
returns-else-first_in-l c = search mine
