-- `Noted::note` meets its contract: each test that fails is a law, and none.
-- Assumes nothing.
use Rattle.grounds_intake.proofs.Ways.{mine}
use Rattle.grounds_intake.proofs.Noted.note.Goals as goal
use Rattle.grounds_intake.proofs.Noted.note.Goals.{else-literal-ne0-via-then-literal-ne0+then-literal-le-LITERALS+else-noted-literal-eq0, else-literal-ne0-via-then-literal-ne0+else-literal-le-LITERALS, else-literal-ne0-via-else-literal-ne0}

pub returns-then-noted-literal-eq0 : goal.returns-then-noted-literal-eq0
returns-then-noted-literal-eq0 c = search mine

pub returns-else-literal-ne0 : goal.returns-else-literal-ne0
returns-else-literal-ne0 c =
    elim c.else-literal-ne0.branch [
      | else-literal-ne0-via-then-literal-ne0+then-literal-le-LITERALS+else-noted-literal-eq0 w ↦ search mine
      | else-literal-ne0-via-then-literal-ne0+else-literal-le-LITERALS w ↦ search mine
      | else-literal-ne0-via-else-literal-ne0 w ↦ search mine
    ]
