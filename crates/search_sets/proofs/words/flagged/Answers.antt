-- `search_sets::words::flagged` meets its contract.
-- Assumes nothing.
use Rattle.search_sets.proofs.Writing.{mine}
use Rattle.search_sets.proofs.words.flagged.Goals as goal

pub returns-then-on : goal.returns-then-on
returns-then-on c = search mine

pub returns-else-on : goal.returns-else-on
returns-else-on c = search mine
