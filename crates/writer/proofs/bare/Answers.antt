-- `writer::bare` meets its contract. A reply with no step and no conclusion.
-- Assumes nothing.
use Rattle.writer.proofs.Made.{mine}
use Rattle.writer.proofs.bare.Goals as goal

pub returns : goal.returns
returns c = search mine
