-- `grounds_lines::lines::put_two` meets its contract: the second number is stored where the first ends.
-- Assumes nothing.
use Rattle.grounds_lines.proofs.Frames.{mine}
use Rattle.grounds_lines.proofs.lines.put_two.Goals as goal

pub returns : goal.returns
returns c = search mine
