-- `grounds_classes::classes::meet` meets its contract. By its own step, or over the label that the two have.
-- Assumes nothing.
use Rattle.grounds_classes.proofs.Classing.{mine}
use Rattle.grounds_classes.proofs.classes.meet.Goals as goal

pub returns-then-x-y : goal.returns-then-x-y
returns-then-x-y c = search mine

pub returns : goal.returns
returns c = search mine
