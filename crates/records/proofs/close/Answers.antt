-- `records::close` meets its contract: what closes the listed table closes the records.
-- Assumes nothing.
use Rattle.records.proofs.Alike.{closes-listed}
use Rattle.records.proofs.close.Goals as goal

pub returns : goal.returns
returns c = record { closes = closes-listed _ _ _ (rw c.listed.ensures at c.close_table.ensures.closes) }
