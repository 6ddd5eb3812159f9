-- `entries::variable_line` meets its contract: a law for each way out.
-- Assumes nothing.
use Rattle.text_reader.proofs.Ways.{mine}
use Rattle.text_reader.proofs.entries.variable_line.Goals as goal

pub returns-then-from-lt-VARIABLES : goal.returns-then-from-lt-VARIABLES
returns-then-from-lt-VARIABLES c = search mine

pub returns-else-room : goal.returns-else-room
returns-else-room c = search mine
