-- `grounds_classes::classes::Classes::join` meets its contract. The smaller class moves; where it is the second, the step is turned first.
-- Assumes nothing.
use Rattle.grounds_classes.proofs.Classing.{mine}
use Rattle.grounds_classes.proofs.classes.Classes.join.Goals as goal

pub returns-then-a-b : goal.returns-then-a-b
returns-then-a-b c = search mine

pub returns-else-a-b : goal.returns-else-a-b
returns-else-a-b c = search mine
