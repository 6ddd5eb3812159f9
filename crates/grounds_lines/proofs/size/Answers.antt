-- `grounds_lines::size` meets its contract: 51 bytes for a step, 27 for a conclusion.
-- Assumes nothing.
use Rattle.grounds_lines.proofs.Frames.{mine}
use Rattle.grounds_lines.proofs.size.Goals as goal

pub returns-then-p-n : goal.returns-then-p-n
returns-then-p-n c = search mine

pub returns-else-p-n : goal.returns-else-p-n
returns-else-p-n c = search mine
