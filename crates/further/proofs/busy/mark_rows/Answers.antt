use Rattle.further.proofs.Raising.{mine}
use Rattle.further.proofs.busy.mark_rows.Goals as goal

pub loop-i-init : goal.loop-i-init
loop-i-init c = search mine

pub loop-i-preserved : goal.loop-i-preserved
loop-i-preserved c = search mine
