-- `classes::statements::difference_at` meets its contract. The kind tells.
-- Assumes nothing.
use Rattle.classes.proofs.Clashes.{mine}
use Rattle.classes.proofs.statements.difference_at.Goals as goal

pub returns-then-is_equation : goal.returns-then-is_equation
returns-then-is_equation c = search mine

pub returns-else-is_equation : goal.returns-else-is_equation
returns-else-is_equation c = search mine
