-- `reply_lines::hex::put_byte` meets its contract: the two stores are the two digits in order.
-- Assumes nothing.
use Rattle.reply_lines.proofs.Lines.{mine}
use Rattle.reply_lines.proofs.hex.put_byte.Goals as goal

pub returns : goal.returns
returns c = search mine
