-- `grounds_classes::rounds::same_label` meets its contract. The labels are compared as they are read.
-- Assumes nothing.
use Rattle.grounds_classes.proofs.Rounding.{comparing}
use Rattle.grounds_classes.proofs.rounds.same_label.Goals as goal

pub returns : goal.returns
returns c = search comparing
