use Rattle.grounds_classes.proofs.Rounding.{passing}
use Rattle.grounds_classes.proofs.classes.Classes.pass.Goals as goal

pub loop-x-init : goal.loop-x-init
loop-x-init c = search passing

pub loop-x-preserved : goal.loop-x-preserved
loop-x-preserved c = search passing

pub returns : goal.returns
returns c = search passing
