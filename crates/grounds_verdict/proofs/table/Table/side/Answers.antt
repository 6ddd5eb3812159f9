-- `grounds_verdict::table::Table::side` meets its contract. The mark says which rows are meant.
-- Assumes nothing.
use Rattle.grounds_verdict.proofs.Numbers.{mine}
use Rattle.grounds_verdict.proofs.table.Table.side.Goals as goal

pub returns-in-0 : goal.returns-in-0
returns-in-0 c = search mine

pub returns-in-1 : goal.returns-in-1
returns-in-1 c = search mine

pub returns-in_default : goal.returns-in_default
returns-in_default c = search mine
