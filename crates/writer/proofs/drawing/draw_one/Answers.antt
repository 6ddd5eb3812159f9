-- `writer::drawing::draw_one` meets its contract. What is said for the literal fits its column, and so what it rests on is sent.
-- Assumes nothing.
use Rattle.writer.proofs.Turning.{mine}
use Rattle.writer.proofs.drawing.draw_one.Goals as goal

pub returns-clause-says : goal.returns-clause-says
returns-clause-says c = search mine

pub returns-clause-sends : goal.returns-clause-sends
returns-clause-sends c = search mine
