-- `boundary::checker_next` meets its contract: the parts give the number and the rows of what the finder told of the caller's rows, and that is the reply.
-- Assumes nothing.
use Rattle.boundary.proofs.Packed.{mine}
use Rattle.boundary.proofs.checker_next.Goals as goal

pub returns : goal.returns
returns c = search mine
