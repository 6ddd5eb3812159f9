-- `limit` meets its contract: for a long input, and for one within the limit.
-- Assumes nothing.
use Rattle.listing.proofs.Output.{mine}
use Rattle.listing.proofs.opening.limit.Goals as goal

pub returns-then-length-gt-INPUT_LIMIT : goal.returns-then-length-gt-INPUT_LIMIT
returns-then-length-gt-INPUT_LIMIT c = search mine

pub returns : goal.returns
returns c = search mine
