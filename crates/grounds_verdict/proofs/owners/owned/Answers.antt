-- `grounds_verdict::owners::owned` meets its contract. A literal that is there has its sign.
-- Assumes nothing.
use Rattle.grounds_verdict.proofs.Owning.{mine}
use Rattle.grounds_verdict.proofs.owners.owned.Goals as goal

pub returns-in_err-place : goal.returns-in_err-place
returns-in_err-place c = search mine

pub returns-then-is_equal : goal.returns-then-is_equal
returns-then-is_equal c = search mine
