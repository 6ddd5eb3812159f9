-- `closing::statements::apart_at` meets its contract. An equation keeps nothing apart.
-- Assumes nothing.
use Rattle.closing.proofs.Clashes.{mine}
use Rattle.closing.proofs.statements.apart_at.Goals as goal

pub returns-then-not-is_equation : goal.returns-then-not-is_equation
returns-then-not-is_equation c = search mine

pub returns-else-not-is_equation : goal.returns-else-not-is_equation
returns-else-not-is_equation c = search mine
