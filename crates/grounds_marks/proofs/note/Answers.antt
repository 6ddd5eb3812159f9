-- `grounds_marks::note` meets its contract. The number is within the limit, or nothing is marked.
-- Assumes nothing.
use Rattle.grounds_marks.proofs.Marking.{mine}
use Rattle.grounds_marks.proofs.note.Goals as goal

pub returns-then-i-limit : goal.returns-then-i-limit
returns-then-i-limit c = search mine

pub returns-else-i-limit : goal.returns-else-i-limit
returns-else-i-limit c = search mine
