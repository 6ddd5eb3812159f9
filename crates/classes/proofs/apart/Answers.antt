use Rattle.classes.proofs.Clashes.{mine}
use Rattle.classes.proofs.apart.Goals as goal

pub loop-k-init : goal.loop-k-init
loop-k-init c = search mine

pub returns-then-apart_at : goal.returns-then-apart_at
returns-then-apart_at c = search mine

pub loop-k-preserved : goal.loop-k-preserved
loop-k-preserved c = search mine

pub returns : goal.returns
returns c = search mine
