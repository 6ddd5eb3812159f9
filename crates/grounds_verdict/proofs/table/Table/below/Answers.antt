-- `grounds_verdict::table::Table::below` meets its contract. A row below the limit has its number, and another has none.
-- Assumes nothing.
use Rattle.grounds_verdict.proofs.Numbers.{mine}
use Rattle.grounds_verdict.proofs.table.Table.below.Goals as goal

pub returns-then-row-limit : goal.returns-then-row-limit
returns-then-row-limit c = search mine

pub returns-else-row-limit : goal.returns-else-row-limit
returns-else-row-limit c = search mine
