-- `closing::statements::both` meets its contract. The second pair is compared only where the first is the same.
-- Assumes nothing.
use Rattle.closing.proofs.Clashes.{mine}
use Rattle.closing.proofs.statements.both.Goals as goal

pub returns-else-a-p : goal.returns-else-a-p
returns-else-a-p c = search mine

pub returns-then-a-p : goal.returns-then-a-p
returns-then-a-p c = search mine
