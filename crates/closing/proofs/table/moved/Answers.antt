-- `closing::table::moved` meets its contract. It is the move of one number.
-- Assumes nothing.
use Rattle.closing.proofs.Tables.{mine}
use Rattle.closing.proofs.table.moved.Goals as goal

pub returns-then-x-hi : goal.returns-then-x-hi
returns-then-x-hi c = search mine

pub returns-else-x-hi : goal.returns-else-x-hi
returns-else-x-hi c = search mine
