-- `grounds_words::words::mark_of` meets its contract. The entry is a context row, or a pattern row.
-- Assumes nothing.
use Rattle.grounds_words.proofs.Wording.{mine}
use Rattle.grounds_words.proofs.words.mark_of.Goals as goal

pub returns-then-from-rows : goal.returns-then-from-rows
returns-then-from-rows c = search mine

pub returns-else-from-rows : goal.returns-else-from-rows
returns-else-from-rows c = search mine
