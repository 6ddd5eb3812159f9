-- `grounds_marks::mark` meets its contract. The step first, and then the steps from the last to the first.
-- Assumes nothing.
use Rattle.grounds_marks.proofs.Marking.{mine}
use Rattle.grounds_marks.proofs.mark.Goals as goal

pub returns : goal.returns
returns c = search mine
