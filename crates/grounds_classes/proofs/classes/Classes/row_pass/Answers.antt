use Rattle.grounds_classes.proofs.Rounding.{passing}
use Rattle.grounds_classes.proofs.classes.Classes.row_pass.Goals as goal

pub loop-y-init : goal.loop-y-init
loop-y-init c = search passing

pub loop-y-preserved : goal.loop-y-preserved
loop-y-preserved c = search passing

pub returns : goal.returns
returns c = search passing
