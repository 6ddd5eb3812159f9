-- `classes::wake::Waking::meet` meets its contract. Rows that agree are merged.
-- Assumes nothing.
use Rattle.classes.proofs.Nearing.{mine}
use Rattle.classes.proofs.wake.Waking.meet.Goals as goal

pub returns-in-Some : goal.returns-in-Some
returns-in-Some c = search mine

pub returns-in_default : goal.returns-in_default
returns-in_default c = search mine
