-- `records::within` meets its contract.
-- Assumes nothing.
use mathlib.Core.Path.{sym}
use Rattle.records.proofs.Room.{room-none, room-all}
use Rattle.records.proofs.within.Goals as goal

pub returns-then-n-gt-ROWS : goal.returns-then-n-gt-ROWS
returns-then-n-gt-ROWS c = sym (room-none _ c.if-n-gt-ROWS.true)

pub returns-else-n-gt-ROWS : goal.returns-else-n-gt-ROWS
returns-else-n-gt-ROWS c = sym (room-all _ c.if-n-gt-ROWS.false)
