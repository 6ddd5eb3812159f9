-- `grounds_verdict::owners::added` meets its contract. A literal that is there and unequal is judged by the numbers of its instances.
-- Assumes nothing.
use Rattle.grounds_verdict.proofs.Owning.{mine}
use Rattle.grounds_verdict.proofs.owners.added.Goals as goal

pub returns-in_default : goal.returns-in_default
returns-in_default c = search mine

pub returns-then-instance-l : goal.returns-then-instance-l
returns-then-instance-l c = search mine

pub returns-else-instance-l : goal.returns-else-instance-l
returns-else-instance-l c = search mine
