-- `search_pairs::prepare::put_apart` meets its contract. Four numbers put: the two ways round, and the two that are live.
-- Assumes nothing.
use Rattle.search_pairs.proofs.Putting.{mine}
use Rattle.search_pairs.proofs.prepare.put_apart.Goals as goal

pub returns : goal.returns
returns c = search mine
