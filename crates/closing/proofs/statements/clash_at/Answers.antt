-- `closing::statements::clash_at` meets its contract. An equation is no clash; past the columns both sides read as row 0.
-- Assumes nothing.
use Rattle.closing.proofs.Clashes.{mine}
use Rattle.closing.proofs.statements.clash_at.Goals as goal

pub returns-then-not-is_equation : goal.returns-then-not-is_equation
returns-then-not-is_equation c = search mine

pub returns-else-not-is_equation : goal.returns-else-not-is_equation
returns-else-not-is_equation c = search mine
