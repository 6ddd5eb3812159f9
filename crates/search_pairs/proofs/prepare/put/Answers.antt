-- `search_pairs::prepare::put` meets its contract. The number is put into the run as one set.
-- Assumes nothing.
use Rattle.search_pairs.proofs.Putting.{put-so}
use Rattle.search_pairs.proofs.prepare.put.Goals as goal

pub returns : goal.returns
returns c = put-so _ _ _ _ _ _ c.start.ensures c.insert.ensures
