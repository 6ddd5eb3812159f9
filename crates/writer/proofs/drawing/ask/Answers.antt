-- `writer::drawing::ask` meets its contract. The literal's numbers, and the numbers of its sides.
-- Assumes nothing.
use Rattle.writer.proofs.Starting.{mine}
use Rattle.writer.proofs.drawing.ask.Goals as goal

pub returns : goal.returns
returns c = search mine
