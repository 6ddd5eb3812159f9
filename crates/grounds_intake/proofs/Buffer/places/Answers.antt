-- `Buffer::places` meets its contract, place by place.
-- Assumes nothing.
use Rattle.grounds_intake.proofs.Ways.{mine}
use Rattle.grounds_intake.proofs.Buffer.places.Goals as goal

pub returns : goal.returns
returns c = search mine
