-- `writer::drawing::say_after` meets its contract. One place of the column is written, and the literal is said.
-- Assumes nothing.
use Rattle.writer.proofs.Turning.{mine}
use Rattle.writer.proofs.drawing.say_after.Goals as goal

pub returns : goal.returns
returns c = search mine
