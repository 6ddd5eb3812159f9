-- `search_values::index` meets its contract: rows have keys of their own, so that sorting drops none and fills the whole space.
-- Assumes nothing.
use Rattle.search_values.proofs.Indexing.{mine}
use Rattle.search_values.proofs.index.Goals as goal

pub returns : goal.returns
returns c = search mine
