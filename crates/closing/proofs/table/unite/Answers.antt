-- `closing::table::unite` meets its contract. The three ways are the two orders of the representatives, and that they are one.
-- Assumes nothing.
use Rattle.closing.proofs.Tables.{mine}
use Rattle.closing.proofs.table.unite.Goals as goal

pub returns-then-a-b : goal.returns-then-a-b
returns-then-a-b c = search mine

pub returns-then-b-a : goal.returns-then-b-a
returns-then-b-a c = search mine

pub returns-else-b-a : goal.returns-else-b-a
returns-else-b-a c = search mine
