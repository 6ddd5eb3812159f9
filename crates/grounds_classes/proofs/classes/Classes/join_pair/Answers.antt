-- `grounds_classes::classes::Classes::join_pair` meets its contract. The two have one label, or are joined by a step of their own.
-- Assumes nothing.
use Rattle.grounds_classes.proofs.Rounding.{joining}
use Rattle.grounds_classes.proofs.classes.Classes.join_pair.Goals as goal

pub returns-then-same_label : goal.returns-then-same_label
returns-then-same_label c = search joining

pub returns : goal.returns
returns c = search joining
