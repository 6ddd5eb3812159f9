-- `next` meets its contract: the refusal, or what the search answers to what was read and an assignment.
-- Assumes nothing.
use Rattle.finder.proofs.Later.{next-found, mine}
use Rattle.finder.proofs.next.Goals as goal

pub hunt_after_with-r-requires-clause-sound : goal.hunt_after_with-r-requires-clause-sound
hunt_after_with-r-requires-clause-sound c = search mine

pub hunt_after_with-r-requires-clause-knows : goal.hunt_after_with-r-requires-clause-knows
hunt_after_with-r-requires-clause-knows c = search mine

pub returns-in-Ok : goal.returns-in-Ok
returns-in-Ok c = record { follows = next-found _ c.in-Ok.l c.in-Ok.ensures _ _ c.hunt_after_with-r.ensures.hunts _ c.answered.ensures.answers }

pub returns-in-Err : goal.returns-in-Err
returns-in-Err c = search mine
