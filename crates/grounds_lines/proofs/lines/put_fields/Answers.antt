-- `grounds_lines::lines::put_fields` meets its contract: the kind and the literal, and what is cited behind them.
-- Assumes nothing.
use Rattle.grounds_lines.proofs.Frames.{mine}
use Rattle.grounds_lines.proofs.lines.put_fields.Goals as goal

pub returns : goal.returns
returns c = search mine
