use Rattle.further.proofs.Raising.{mine}
use Rattle.further.proofs.busy.mark_sides.Goals as goal

pub loop-k-init : goal.loop-k-init
loop-k-init c = search mine

pub loop-k-preserved : goal.loop-k-preserved
loop-k-preserved c = search mine
