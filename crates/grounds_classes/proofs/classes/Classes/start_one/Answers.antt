-- `grounds_classes::classes::Classes::start_one` meets its contract. One reflexive step, and its number.
-- Assumes nothing.
use Rattle.grounds_classes.proofs.Rounding.{starting}
use Rattle.grounds_classes.proofs.classes.Classes.start_one.Goals as goal

pub returns : goal.returns
returns c = search starting
