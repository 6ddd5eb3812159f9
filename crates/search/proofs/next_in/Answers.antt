-- `search::next_in` meets its contract. The closing and the marks are what is to be lent, and a memo of zeros knows nothing.
-- Assumes nothing.
use Rattle.differing.proofs.Knowing.{knows_start}
use Rattle.search.proofs.Finding.{closes-lent}
use Rattle.search.proofs.next_in.Goals as goal

pub next_with-requires : goal.next_with-requires
next_with-requires c = record { lends = closes-lent c.close-c.result.answer c.close-c.ensures.closes c.busy_classes-busy.ensures.marks; knows = knows_start _ _ c.unknown-known.ensures }
