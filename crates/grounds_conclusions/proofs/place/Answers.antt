use Rattle.grounds_conclusions.proofs.Sayings.{placing}
use Rattle.grounds_conclusions.proofs.place.Goals as goal

pub loop-i-init : goal.loop-i-init
loop-i-init c = search placing

pub returns-then-same_label : goal.returns-then-same_label
returns-then-same_label c = search placing

pub loop-i-preserved : goal.loop-i-preserved
loop-i-preserved c = search placing

pub returns : goal.returns
returns c = search placing
