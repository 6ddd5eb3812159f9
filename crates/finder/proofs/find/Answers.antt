-- `find` meets its contract: the refusal, or what the search answers to what was read.
-- Assumes nothing.
use Rattle.finder.proofs.Judging.{find-found, mine}
use Rattle.finder.proofs.find.Goals as goal

pub hunt_with-r-requires-clause-sound : goal.hunt_with-r-requires-clause-sound
hunt_with-r-requires-clause-sound c = search mine

pub hunt_with-r-requires-clause-knows : goal.hunt_with-r-requires-clause-knows
hunt_with-r-requires-clause-knows c = search mine

pub returns-in-Ok : goal.returns-in-Ok
returns-in-Ok c = record { finds = find-found _ c.in-Ok.l c.in-Ok.ensures _ c.hunt_with-r.ensures.hunts _ c.answered.ensures.answers }

pub returns-in-Err : goal.returns-in-Err
returns-in-Err c = search mine
