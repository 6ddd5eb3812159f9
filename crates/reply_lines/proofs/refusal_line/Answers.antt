-- `reply_lines::refusal_line` meets its contract: the line of the code, the number, and the two bytes of the place and of the offset, high byte first.
-- Assumes nothing.
use Rattle.reply_lines.proofs.Printing.{mine}
use Rattle.reply_lines.proofs.refusal_line.Goals as goal

pub returns : goal.returns
returns c = search mine
