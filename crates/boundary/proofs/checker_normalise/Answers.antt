-- `boundary::checker_normalise` meets its contract: what is written is a normal text, so its length is small enough to be packed.
-- Assumes nothing.
use Rattle.boundary.proofs.Packed.{mine}
use Rattle.boundary.proofs.checker_normalise.Goals as goal

pub pack_written-requires : goal.pack_written-requires
pack_written-requires c = search mine

pub returns : goal.returns
returns c = search mine
