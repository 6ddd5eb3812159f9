-- `grounds_words::words::row_of` meets its contract. The entry is a context row, or a pattern row.
-- Assumes nothing.
use Rattle.grounds_words.proofs.Wording.{mine}
use Rattle.grounds_words.proofs.words.row_of.Goals as goal

pub returns-then-i-rows : goal.returns-then-i-rows
returns-then-i-rows c = search mine

pub returns-else-i-rows : goal.returns-else-i-rows
returns-else-i-rows c = search mine
