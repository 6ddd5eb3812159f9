-- `hunt` meets its contract: what is laid out says what the runs say, and nothing is known of pairs.
-- Assumes nothing.
use Rattle.hunting.proofs.Laying.{hunt-done, mine}
use Rattle.hunting.proofs.hunt.Goals as goal

pub hunt_with-requires : goal.hunt_with-requires
hunt_with-requires c = search mine

pub returns : goal.returns
returns c = record { hunts = hunt-done _ _ _ _ _ c.requires.ready _ c.lay-l.ensures.lays _ c.hunt_with.ensures.hunts }
