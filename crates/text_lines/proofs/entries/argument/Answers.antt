-- `entries::argument` meets its contract: past the last argument the answer is row 0.
-- Assumes nothing.
use Rattle.text_lines.proofs.Ways.{mine}
use Rattle.text_lines.proofs.entries.argument.Goals as goal

pub returns-then-k-count : goal.returns-then-k-count
returns-then-k-count c = search mine

pub returns-else-k-count : goal.returns-else-k-count
returns-else-k-count c = search mine
