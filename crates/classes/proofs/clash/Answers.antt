use Rattle.classes.proofs.Clashes.{mine}
use Rattle.classes.proofs.clash.Goals as goal

pub loop-k-init : goal.loop-k-init
loop-k-init c = search mine

pub returns-then-clash_at : goal.returns-then-clash_at
returns-then-clash_at c = search mine

pub loop-k-preserved : goal.loop-k-preserved
loop-k-preserved c = search mine

pub returns : goal.returns
returns c = search mine
