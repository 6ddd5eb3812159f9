-- `verify::take_in` meets its contract: what the parser takes in of a piece, and what the piece says of the input.
-- Assumes nothing.
use Rattle.verify.proofs.Runs.{mine}
use Rattle.verify.proofs.take_in.Goals as goal

pub returns : goal.returns
returns c = search mine
