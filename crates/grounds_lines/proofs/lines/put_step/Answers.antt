-- `grounds_lines::lines::put_step` meets its contract: the kind and the first word, and the two others behind them.
-- Assumes nothing.
use Rattle.grounds_lines.proofs.Frames.{mine}
use Rattle.grounds_lines.proofs.lines.put_step.Goals as goal

pub returns : goal.returns
returns c = search mine
