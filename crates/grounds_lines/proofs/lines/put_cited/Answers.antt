-- `grounds_lines::lines::put_cited` meets its contract: two numbers of four bytes, and the end of the line behind them.
-- Assumes nothing.
use Rattle.grounds_lines.proofs.Frames.{mine}
use Rattle.grounds_lines.proofs.lines.put_cited.Goals as goal

pub returns : goal.returns
returns c = search mine
