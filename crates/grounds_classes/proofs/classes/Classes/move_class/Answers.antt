-- `grounds_classes::classes::Classes::move_class` meets its contract. A step for the two labels, and then each entry.
-- Assumes nothing.
use Rattle.grounds_classes.proofs.Classing.{mine}
use Rattle.grounds_classes.proofs.classes.Classes.move_class.Goals as goal

pub returns : goal.returns
returns c = search mine
