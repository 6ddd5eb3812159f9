-- `further::busy::mark` meets its contract.
-- Assumes nothing.
use Rattle.further.proofs.Raising.{mine}
use Rattle.further.proofs.busy.mark.Goals as goal

pub returns-then-class-lt255 : goal.returns-then-class-lt255
returns-then-class-lt255 c = search mine

pub returns-else-class-lt255 : goal.returns-else-class-lt255
returns-else-class-lt255 c = search mine
