use Rattle.classes.proofs.Tables.{mine}
use Rattle.classes.proofs.table.move_all.Goals as goal

pub loop-place-preserved : goal.loop-place-preserved
loop-place-preserved c = search mine
