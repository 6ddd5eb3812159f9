use Rattle.grounds_classes.proofs.Classing.{mine}
use Rattle.grounds_classes.proofs.classes.same.Goals as goal

pub returns : goal.returns
returns c = search mine
