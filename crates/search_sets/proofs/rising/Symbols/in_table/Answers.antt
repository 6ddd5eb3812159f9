-- `search_sets::rising::Symbols::in_table` meets its contract.
-- Assumes nothing.
use Rattle.search_sets.proofs.Seeing.{mine}
use Rattle.search_sets.proofs.rising.Symbols.in_table.Goals as goal

pub returns-else-member : goal.returns-else-member
returns-else-member c = rw c.if-member.false (search mine)
