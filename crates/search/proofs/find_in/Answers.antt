-- `search::find_in` meets its contract. The closing and the marks are what is to be lent, and a memo of zeros knows nothing.
-- Assumes nothing.
use Rattle.differing.proofs.Knowing.{knows_start}
use Rattle.search.proofs.Finding.{closes-lent}
use Rattle.search.proofs.find_in.Goals as goal

pub find_with-requires : goal.find_with-requires
find_with-requires c = record { lends = closes-lent c.close-c.result.answer c.close-c.ensures.closes c.busy_classes-busy.ensures.marks; knows = knows_start _ _ c.unknown-known.ensures }
