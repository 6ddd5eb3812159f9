use Rattle.text_lines.proofs.Scan.{mine}
use Rattle.text_lines.proofs.lines.digits_end.Goals as goal

pub returns-then-is_none : goal.returns-then-is_none
returns-then-is_none c = record { run = search mine }

pub loop-i-preserved : goal.loop-i-preserved
loop-i-preserved c = search mine

pub returns : goal.returns
returns c = search mine
