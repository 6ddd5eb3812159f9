use Rattle.grounds_classes.proofs.Classing.{mine}
use Rattle.grounds_classes.proofs.classes.Classes.carry_all.Goals as goal

pub loop-z-init : goal.loop-z-init
loop-z-init c = search mine

pub loop-z-preserved : goal.loop-z-preserved
loop-z-preserved c = search mine

pub returns : goal.returns
returns c = search mine
