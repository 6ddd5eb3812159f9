-- `classes::table::moved` meets its contract. It is the move of one number.
-- Assumes nothing.
use Rattle.classes.proofs.Tables.{mine}
use Rattle.classes.proofs.table.moved.Goals as goal

pub returns-then-x-hi : goal.returns-then-x-hi
returns-then-x-hi c = search mine

pub returns-else-x-hi : goal.returns-else-x-hi
returns-else-x-hi c = search mine
