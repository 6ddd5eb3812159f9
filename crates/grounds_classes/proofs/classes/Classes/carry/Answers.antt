-- `grounds_classes::classes::Classes::carry` meets its contract. The entry has the label, and gets the other; or it stays.
-- Assumes nothing.
use Rattle.grounds_classes.proofs.Classing.{mine}
use Rattle.grounds_classes.proofs.classes.Classes.carry.Goals as goal

pub returns-then-x-e : goal.returns-then-x-e
returns-then-x-e c = search mine

pub returns-else-x-e : goal.returns-else-x-e
returns-else-x-e c = search mine
