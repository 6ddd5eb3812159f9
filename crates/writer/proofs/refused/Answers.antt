-- `writer::refused` meets its contract. No place is told with a refusal.
-- Assumes nothing.
use Rattle.writer.proofs.Made.{mine}
use Rattle.writer.proofs.refused.Goals as goal

pub returns : goal.returns
returns c = search mine
