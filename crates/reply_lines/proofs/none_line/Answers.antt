-- `reply_lines::none_line` meets its contract: the line of the code alone.
-- Assumes nothing.
use Rattle.reply_lines.proofs.Printing.{mine}
use Rattle.reply_lines.proofs.none_line.Goals as goal

pub returns : goal.returns
returns c = search mine
