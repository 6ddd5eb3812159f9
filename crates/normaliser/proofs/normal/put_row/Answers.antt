-- `normal::put_row` meets its contract: the first fields make the row's line.
-- Assumes nothing.
use Rattle.normaliser.proofs.Rows.{mine}
use Rattle.normaliser.proofs.normal.put_row.Goals as goal

pub put_frame-requires : goal.put_frame-requires
put_frame-requires c = search mine

pub returns : goal.returns
returns c = search mine
