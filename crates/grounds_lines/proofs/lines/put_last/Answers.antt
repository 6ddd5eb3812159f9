-- `grounds_lines::lines::put_last` meets its contract: a feed behind two numbers.
-- Assumes nothing.
use Rattle.grounds_lines.proofs.Frames.{mine}
use Rattle.grounds_lines.proofs.lines.put_last.Goals as goal

pub returns : goal.returns
returns c = search mine
