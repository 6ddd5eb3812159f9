use Rattle.reply_lines.proofs.Lines.{mine}
use Rattle.reply_lines.proofs.hex.put_frame.Goals as goal

pub loop-k-init : goal.loop-k-init
loop-k-init c = search mine

pub loop-k-preserved : goal.loop-k-preserved
loop-k-preserved c = search mine

pub returns : goal.returns
returns c = search mine
