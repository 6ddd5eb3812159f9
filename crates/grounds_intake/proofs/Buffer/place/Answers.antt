-- `Buffer::place` meets its contract: a row that is given, or none.
-- Assumes nothing.
use Rattle.grounds_intake.proofs.Ways.{mine}
use Rattle.grounds_intake.proofs.Buffer.place.Goals as goal
use Rattle.grounds_intake.proofs.Buffer.place.Goals.{else-assigns-via-then-assigns+else-i-from, else-assigns-via-else-assigns}

pub returns-then-i-from : goal.returns-then-i-from
returns-then-i-from c = search mine

pub returns-else-assigns : goal.returns-else-assigns
returns-else-assigns c =
    elim c.else-assigns.branch [
      | else-assigns-via-then-assigns+else-i-from w ↦ search mine
      | else-assigns-via-else-assigns w ↦ search mine
    ]
