-- `classes::close` meets its contract. The first places of the table are lent, one for each row; what comes back stands before the others, which keep their numbers.
-- Assumes nothing.
use Rattle.classes.proofs.Widths.{mine}
use Rattle.classes.proofs.close.Goals as goal

pub settle-requires-clause-table_value : goal.settle-requires-clause-table_value
settle-requires-clause-table_value c = search mine

pub returns-then-fit_context : goal.returns-then-fit_context
returns-then-fit_context c = search mine

pub returns-else-fit_context : goal.returns-else-fit_context
returns-else-fit_context c = search mine
