-- `grounds_classes::classes::Classes::bridge` meets its contract. From one label back to its entry, over the given step, and on to the other label.
-- Assumes nothing.
use Rattle.grounds_classes.proofs.Classing.{mine}
use Rattle.grounds_classes.proofs.classes.Classes.bridge.Goals as goal

pub returns : goal.returns
returns c = search mine
