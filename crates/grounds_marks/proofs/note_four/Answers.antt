-- `grounds_marks::note_four` meets its contract. Four numbers, one after the other.
-- Assumes nothing.
use Rattle.grounds_marks.proofs.Marking.{mine}
use Rattle.grounds_marks.proofs.note_four.Goals as goal

pub returns : goal.returns
returns c = search mine
