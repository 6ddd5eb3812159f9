use Rattle.grounds_lines.proofs.Filling.{mine}
use Rattle.grounds_lines.proofs.fill.Goals as goal

pub loop-at-init : goal.loop-at-init
loop-at-init c = search mine

pub returns-then-space-used : goal.returns-then-space-used
returns-then-space-used c = search mine

pub loop-at-preserved : goal.loop-at-preserved
loop-at-preserved c = search mine

pub returns : goal.returns
returns c = search mine
