use Rattle.classes.proofs.Tables.{mine}
use Rattle.classes.proofs.table.number.Goals as goal

pub returns : goal.returns
returns c = search mine
