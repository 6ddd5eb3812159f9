-- `search_sets::Layout::row_from_candidates` meets its contract.
-- Assumes nothing.
use Rattle.search_sets.proofs.Variables.{mine}
use Rattle.search_sets.proofs.Layout.row_from_candidates.Goals as goal

pub copy-requires : goal.copy-requires
copy-requires c = search mine

pub returns : goal.returns
returns c = search mine
