use Rattle.grounds_classes.proofs.Rounding.{stating}
use Rattle.grounds_classes.proofs.classes.Classes.state_all.Goals as goal

pub loop-i-init : goal.loop-i-init
loop-i-init c = search stating

pub loop-i-preserved : goal.loop-i-preserved
loop-i-preserved c = search stating

pub returns : goal.returns
returns c = search stating
