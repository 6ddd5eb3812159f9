-- `closing::statements::either` meets its contract. The two orientations, one after the other.
-- Assumes nothing.
use Rattle.closing.proofs.Clashes.{mine}
use Rattle.closing.proofs.statements.either.Goals as goal

pub returns-then-both : goal.returns-then-both
returns-then-both c = search mine

pub returns-else-both : goal.returns-else-both
returns-else-both c = search mine
