-- `grounds_classes::classes::Classes::pair_apart` meets its contract. The two agree and are united, or nothing changes.
-- Assumes nothing.
use Rattle.grounds_classes.proofs.Rounding.{pairing}
use Rattle.grounds_classes.proofs.classes.Classes.pair_apart.Goals as goal

pub returns-then-alike : goal.returns-then-alike
returns-then-alike c = search pairing

pub returns-else-alike : goal.returns-else-alike
returns-else-alike c = search pairing
