-- `grounds_verdict::steps::Grounds::follows` meets its contract. The owner is there, both sides are there, and the reason's own test decides.
-- Assumes nothing.
use Rattle.grounds_verdict.proofs.Derived.{mine}
use Rattle.grounds_verdict.proofs.steps.Grounds.follows.Goals as goal

pub returns-then-r-entries : goal.returns-then-r-entries
returns-then-r-entries c = search mine

pub returns-else-r-entries : goal.returns-else-r-entries
returns-else-r-entries c = search mine
