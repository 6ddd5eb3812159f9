-- `grounds_classes::classes::Classes::congruence` meets its contract. The arguments one after the other, and the step that rests on all.
-- Assumes nothing.
use Rattle.grounds_classes.proofs.Rounding.{tables-on, arguing}
use Rattle.grounds_classes.proofs.classes.Classes.congruence.Goals as goal

pub returns : goal.returns
returns c =
    let k = tables-on c.args.two c.argue-a.ensures c.argue-b.ensures c.argue-c.ensures c.argue-d.ensures in
    record { keeps = record { column = k.0.column; classes = k.0.classes }; wrote = search arguing; table = k.1 }
