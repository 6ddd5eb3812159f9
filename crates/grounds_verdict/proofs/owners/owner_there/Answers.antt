-- `grounds_verdict::owners::owner_there` meets its contract. 0 is an owner; another is by its literal.
-- Assumes nothing.
use Rattle.grounds_verdict.proofs.Owning.{mine}
use Rattle.grounds_verdict.proofs.owners.owner_there.Goals as goal

pub returns-then-owner-eq0 : goal.returns-then-owner-eq0
returns-then-owner-eq0 c = search mine

pub returns-else-owner-eq0 : goal.returns-else-owner-eq0
returns-else-owner-eq0 c = search mine
