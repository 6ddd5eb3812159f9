use Rattle.grounds_lines.proofs.Numbers.{mine}
use Rattle.grounds_lines.proofs.lines.put_number.Goals as goal

pub loop-k-init : goal.loop-k-init
loop-k-init c = search mine

pub loop-k-preserved : goal.loop-k-preserved
loop-k-preserved c = search mine

pub returns : goal.returns
returns c = search mine
