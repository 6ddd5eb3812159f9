-- `writer::drawing::draw_by` meets its contract. Classes are closed from zeros, and drawn from.
-- Assumes nothing.
use Rattle.writer.proofs.Starting.{mine}
use Rattle.writer.proofs.drawing.draw_by.Goals as goal

pub close_all-requires-clause-table_value : goal.close_all-requires-clause-table_value
close_all-requires-clause-table_value c = search mine

pub returns : goal.returns
returns c = search mine
