-- `grounds_classes::classes::own` meets its contract. Each entry has its own step, the one after its number.
-- Assumes nothing.
use Rattle.grounds_classes.proofs.Classing.{mine}
use Rattle.grounds_classes.proofs.classes.own.Goals as goal

pub returns-then-from-lt-EACH : goal.returns-then-from-lt-EACH
returns-then-from-lt-EACH c = search mine

pub returns-else-from-lt-EACH : goal.returns-else-from-lt-EACH
returns-else-from-lt-EACH c = search mine
