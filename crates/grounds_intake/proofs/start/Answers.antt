-- `start` meets its contract: the first line is open.
-- Assumes nothing.
use Rattle.grounds_intake.proofs.Ways.{mine}
use Rattle.grounds_intake.proofs.start.Goals as goal

pub returns : goal.returns
returns c = record { starts = search mine }
