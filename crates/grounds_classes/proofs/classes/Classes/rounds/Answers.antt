use Rattle.grounds_classes.proofs.Rounding.{passing}
use Rattle.grounds_classes.proofs.classes.Classes.rounds.Goals as goal

pub loop-init : goal.loop-init
loop-init c = search passing

pub returns-then-rests : goal.returns-then-rests
returns-then-rests c = search passing

pub loop-preserved : goal.loop-preserved
loop-preserved c = search passing

pub returns : goal.returns
returns c = search passing
