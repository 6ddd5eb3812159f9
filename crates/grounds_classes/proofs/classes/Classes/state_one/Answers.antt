use Rattle.grounds_classes.proofs.Rounding.{joining}
use Rattle.grounds_classes.proofs.classes.Classes.state_one.Goals as goal

pub returns : goal.returns
returns c = search joining
