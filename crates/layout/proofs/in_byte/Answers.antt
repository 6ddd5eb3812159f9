-- `in_byte` meets its contract: a number that fits, and one that does not.
-- Assumes nothing.
use Rattle.layout.proofs.Laying.{byte-or}
use Rattle.layout.proofs.in_byte.Goals as goal

pub returns : goal.returns
returns c = byte-or _ _ _ c.try_from.ensures c.unwrap_or.ensures
