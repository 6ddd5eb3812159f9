use Rattle.normaliser.proofs.Rows.{mine}
use Rattle.normaliser.proofs.normal.put_rows.Goals as goal

pub put_row-to-requires : goal.put_row-to-requires
put_row-to-requires c = search mine

pub loop-i-preserved : goal.loop-i-preserved
loop-i-preserved c = search mine

pub returns : goal.returns
returns c = search mine
