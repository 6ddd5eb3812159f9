-- `reply_lines::breach_line` meets its contract: the line of the code, the number of variables and that many rows.
-- Assumes nothing.
use Rattle.reply_lines.proofs.Printing.{mine}
use Rattle.reply_lines.proofs.breach_line.Goals as goal

pub returns : goal.returns
returns c = search mine
