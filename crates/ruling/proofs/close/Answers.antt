-- `close` meets its contract: the filled parts of what was read are closed.
-- Assumes nothing.
use Rattle.ruling.proofs.Ruling.{mine}
use Rattle.ruling.proofs.close.Goals as goal

pub rows-requires : goal.rows-requires
rows-requires c = search mine

pub said-requires : goal.said-requires
said-requires c = search mine

pub said-requires-2 : goal.said-requires-2
said-requires-2 c = search mine

pub returns : goal.returns
returns c = search mine
