-- `closing::statements::difference_at` meets its contract. The two ways are the two kinds.
-- Assumes nothing.
use Rattle.closing.proofs.Clashes.{mine}
use Rattle.closing.proofs.statements.difference_at.Goals as goal

pub returns-then-is_equation : goal.returns-then-is_equation
returns-then-is_equation c = search mine

pub returns-else-is_equation : goal.returns-else-is_equation
returns-else-is_equation c = search mine
