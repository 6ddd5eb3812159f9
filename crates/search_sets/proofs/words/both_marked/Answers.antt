-- `search_sets::words::both_marked` meets its contract.
-- Assumes nothing.
use Rattle.search_sets.proofs.Writing.{mine}
use Rattle.search_sets.proofs.words.both_marked.Goals as goal

pub returns-else-marked : goal.returns-else-marked
returns-else-marked c = rw c.if-marked.false (search mine)
