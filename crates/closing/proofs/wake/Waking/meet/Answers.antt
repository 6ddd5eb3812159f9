-- `wake::Waking::meet` meets its contract.
-- Assumes nothing.
use Rattle.closing.proofs.Nearing.{found-some, nearer-unite}
use Rattle.closing.proofs.wake.Waking.meet.Goals as goal

pub returns-in-Some : goal.returns-in-Some
returns-in-Some c =
    nearer-unite _ _ _ _ _ _ _ _ c.requires.laid c.requires.i_lt_rows (found-some c.found.ensures c.in-Some.is) c.wed.ensures
