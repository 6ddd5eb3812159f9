-- `search_pairs::memo::put_pair` meets its contract. Two numbers put, one for each way round.
-- Assumes nothing.
use Rattle.search_pairs.proofs.Recalling.{mine}
use Rattle.search_pairs.proofs.memo.put_pair.Goals as goal

pub returns : goal.returns
returns c = search mine
