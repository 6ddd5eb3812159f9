use Rattle.closing.proofs.Tables.{mine}
use Rattle.closing.proofs.table.sum.Goals as goal

pub loop-r-init : goal.loop-r-init
loop-r-init c = search mine

pub loop-r-preserved : goal.loop-r-preserved
loop-r-preserved c = search mine
