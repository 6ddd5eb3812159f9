-- `writer::shown` meets its contract. What is drawn shows the breach.
-- Assumes nothing.
use Rattle.writer.proofs.Seeking.{mine}
use Rattle.writer.proofs.shown.Goals as goal

pub returns : goal.returns
returns c = search mine
