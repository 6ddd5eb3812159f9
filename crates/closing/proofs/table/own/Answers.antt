use Rattle.closing.proofs.Tables.{mine}
use Rattle.closing.proofs.table.own.Goals as goal

pub returns : goal.returns
returns c = search mine
