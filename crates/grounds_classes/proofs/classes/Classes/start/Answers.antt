use Rattle.grounds_classes.proofs.Rounding.{starting}
use Rattle.grounds_classes.proofs.classes.Classes.start.Goals as goal

pub loop-x-init : goal.loop-x-init
loop-x-init c = search starting

pub loop-x-preserved : goal.loop-x-preserved
loop-x-preserved c = search starting

pub returns : goal.returns
returns c = search starting
