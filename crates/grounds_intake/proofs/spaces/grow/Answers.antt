-- `spaces::grow` meets its contract. At the bound it stays.
-- Assumes nothing.
use Rattle.grounds_intake.proofs.Ways.{mine}
use Rattle.grounds_intake.proofs.spaces.grow.Goals as goal

pub returns-then-n-most : goal.returns-then-n-most
returns-then-n-most c = search mine

pub returns-else-n-most : goal.returns-else-n-most
returns-else-n-most c = search mine
