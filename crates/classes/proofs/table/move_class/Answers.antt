-- `classes::table::move_class` meets its contract: the part from the first row of the class on is moved.
-- Assumes nothing.
use borrow.Author.Rules.{rules}
use Rattle.classes.proofs.Tables.{move-part, mine}
use Rattle.classes.proofs.table.move_class.Goals as goal

pub returns-then-first-table : goal.returns-then-first-table
returns-then-first-table c = search (rules, move-part)

pub returns-else-first-table : goal.returns-else-first-table
returns-else-first-table c = search mine
