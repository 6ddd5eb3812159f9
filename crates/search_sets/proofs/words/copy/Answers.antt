-- `search_sets::words::copy` meets its contract.
-- Assumes nothing.
use Rattle.search_sets.proofs.Writing.{mine}
use Rattle.search_sets.proofs.words.copy.Goals as goal

pub returns : goal.returns
returns c = search mine
