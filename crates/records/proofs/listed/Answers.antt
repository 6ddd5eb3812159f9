-- `records::listed` meets its contract: there is room for no more records than there are, and for no more than the most rows.
-- Assumes nothing.
use Rattle.records.specs.Layouts.{list_of}
use Rattle.records.proofs.Room.{room-few, room_fits}
use Rattle.records.proofs.listed.Goals as goal

pub copied-requires-clause-n_in_bounds : goal.copied-requires-clause-n_in_bounds
copied-requires-clause-n_in_bounds c = rw c.within.ensures (room-few _)

pub copied-requires-clause-n_le_most_rows : goal.copied-requires-clause-n_le_most_rows
copied-requires-clause-n_le_most_rows c = rw c.within.ensures (room_fits _)

pub returns : goal.returns
unfolding list_of
returns c = rw (c.copied.ensures, c.blank.ensures, c.within.ensures)
