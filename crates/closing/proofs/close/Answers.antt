-- `closing::close` meets its contract. The tests of the columns say just that they are fit; then `settle` keeps the promise, and else the table still holds own numbers.
-- Assumes nothing.
use Rattle.closing.proofs.Columns.{columns-long, mine}
use Rattle.closing.proofs.close.Goals as goal

pub settle-requires : goal.settle-requires
settle-requires c = record { fit_context = search mine; rows_in_bounds = columns-long c.fit_context.ensures.laid (search mine); table_value = search mine }

pub returns-else-fit_context : goal.returns-else-fit_context
returns-else-fit_context c = search mine
