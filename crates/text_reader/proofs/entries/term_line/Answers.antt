-- `entries::term_line` meets its contract: a law for each test that fails, and one for none.
-- Assumes nothing.
use Rattle.text_reader.proofs.Ways.{mine, term-missing}
use Rattle.text_reader.proofs.entries.term_line.Goals as goal
use Rattle.text_reader.proofs.entries.term_line.Goals.{then-not-room-via-then-not-room, then-not-room-via-else-not-room+then-from-gt-PLACES}

pub returns-then-not-room : goal.returns-then-not-room
returns-then-not-room c =
    elim c.then-not-room.branch
    [ then-not-room-via-then-not-room w ↦ search mine | then-not-room-via-else-not-room+then-from-gt-PLACES w ↦ search mine ]

pub returns-in_err-t : goal.returns-in_err-t
returns-in_err-t c =
    term-missing _ _ _ _ _ _ _ _ _ (search mine) c.from.ensures c.if-from-gt-PLACES.false _ c.in_err-t.ensures _ c.from_residual.ensures.1

pub returns-then-clashes-eq0 : goal.returns-then-clashes-eq0
returns-then-clashes-eq0 c = search mine

pub returns-else-clashes-eq0 : goal.returns-else-clashes-eq0
returns-else-clashes-eq0 c = search mine
