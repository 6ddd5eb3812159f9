-- `grounds_marks::mark_one` meets its contract. The step is not marked, cites none, or marks what it cites.
-- Assumes nothing.
use Rattle.grounds_marks.proofs.Marking.{mine}
use Rattle.grounds_marks.proofs.mark_one.Goals as goal

pub returns-then-marks-i-eq0 : goal.returns-then-marks-i-eq0
returns-then-marks-i-eq0 c = search mine

pub returns-then-cells-p-le2 : goal.returns-then-cells-p-le2
returns-then-cells-p-le2 c = search mine

pub returns : goal.returns
returns c = search mine
