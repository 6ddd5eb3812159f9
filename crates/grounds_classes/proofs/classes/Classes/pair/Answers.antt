-- `grounds_classes::classes::Classes::pair` meets its contract. The two have one label, or are looked at.
-- Assumes nothing.
use Rattle.grounds_classes.proofs.Rounding.{pairing}
use Rattle.grounds_classes.proofs.classes.Classes.pair.Goals as goal

pub returns-then-not-same_label : goal.returns-then-not-same_label
returns-then-not-same_label c = search pairing

pub returns-else-not-same_label : goal.returns-else-not-same_label
returns-else-not-same_label c = search pairing
