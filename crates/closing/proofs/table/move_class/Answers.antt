use Rattle.closing.proofs.Tables.{mine}
use Rattle.closing.proofs.table.move_class.Goals as goal

pub loop-place-preserved : goal.loop-place-preserved
loop-place-preserved c = search mine
