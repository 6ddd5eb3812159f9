-- `grounds_classes::classes::Classes::unite` meets its contract. A congruent step, and the join by it.
-- Assumes nothing.
use Rattle.grounds_classes.proofs.Rounding.{arguing}
use Rattle.grounds_classes.proofs.classes.Classes.unite.Goals as goal

pub returns : goal.returns
returns c = search arguing
