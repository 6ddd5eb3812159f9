-- `writer::drawing::close_all` meets its contract. The equations in a run are those that the context states.
-- Assumes nothing.
use Rattle.writer.proofs.Starting.{mine}
use Rattle.writer.proofs.drawing.close_all.Goals as goal

pub settle-requires-clause-entered : goal.settle-requires-clause-entered
settle-requires-clause-entered c = search mine

pub returns : goal.returns
returns c = search mine
