-- `writer::no_conclusions` meets its contract. Arrays of zeros.
-- Assumes nothing.
use Rattle.writer.proofs.Made.{mine}
use Rattle.writer.proofs.no_conclusions.Goals as goal

pub returns : goal.returns
returns c = search mine
