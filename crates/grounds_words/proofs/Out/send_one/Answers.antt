-- `grounds_words::Out::send_one` meets its contract. The step is not marked, has a new number, or is put behind the others.
-- Assumes nothing.
use Rattle.grounds_words.proofs.Emitting.{mine}
use Rattle.grounds_words.proofs.Out.send_one.Goals as goal
use Rattle.grounds_words.proofs.Out.send_one.Goals.{then-marks-i-eq0-via-then-marks-i-eq0, then-marks-i-eq0-via-else-marks-i-eq0+then-self-i-ne0}

pub returns-then-marks-i-eq0 : goal.returns-then-marks-i-eq0
returns-then-marks-i-eq0 c = elim c.then-marks-i-eq0.branch [ then-marks-i-eq0-via-then-marks-i-eq0 w ↦ search mine | then-marks-i-eq0-via-else-marks-i-eq0+then-self-i-ne0 w ↦ search mine ]

pub returns : goal.returns
returns c = search mine
