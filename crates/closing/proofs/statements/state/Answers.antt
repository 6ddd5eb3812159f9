-- `closing::statements::state` meets its contract. An equation is a merge, and anything else leaves the table as it is.
-- Assumes nothing.
use Rattle.closing.proofs.Stated.{mine}
use Rattle.closing.proofs.statements.state.Goals as goal

pub returns-then-is_equation : goal.returns-then-is_equation
returns-then-is_equation c = search mine

pub returns-else-is_equation : goal.returns-else-is_equation
returns-else-is_equation c = search mine
