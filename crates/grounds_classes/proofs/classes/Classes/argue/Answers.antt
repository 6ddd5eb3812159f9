use Rattle.grounds_classes.proofs.Rounding.{arguing}
use Rattle.grounds_classes.proofs.classes.Classes.argue.Goals as goal

pub returns-then-i-count_in : goal.returns-then-i-count_in
returns-then-i-count_in c = search arguing

pub returns-else-i-count_in : goal.returns-else-i-count_in
returns-else-i-count_in c = search arguing
