-- `search_sets::rising::Symbols::fits` meets its contract.
-- Assumes nothing.
use Rattle.search_sets.proofs.Symbols.{mine}
use Rattle.search_sets.proofs.rising.Symbols.fits.Goals as goal

pub returns-else-same_head : goal.returns-else-same_head
returns-else-same_head c = rw c.if-same_head.false (search mine)
