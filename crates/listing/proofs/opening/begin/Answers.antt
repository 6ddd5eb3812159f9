-- `begin` meets its contract: no line and the start, or the refusal's line and the end.
-- Assumes nothing.
use Rattle.listing.proofs.Output.{mine}
use Rattle.listing.proofs.opening.begin.Goals as goal

pub returns-in-Ok : goal.returns-in-Ok
returns-in-Ok c = search mine

pub returns-in-Err : goal.returns-in-Err
returns-in-Err c = search mine
