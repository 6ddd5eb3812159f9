-- `records::find` meets its contract: what is found in the listed table is found in the records.
-- Assumes nothing.
use Rattle.records.proofs.Alike.{finds-listed}
use Rattle.records.proofs.find.Goals as goal

pub returns : goal.returns
returns c = record { finds = finds-listed _ _ _ _ (rw c.listed.ensures at c.find_table.ensures.finds) }
