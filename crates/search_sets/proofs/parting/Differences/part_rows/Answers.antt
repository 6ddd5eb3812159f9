-- `search_sets::parting::Differences::part_rows` meets its contract.
-- Assumes nothing.
use Rattle.search_sets.proofs.Differing.{mine}
use Rattle.search_sets.proofs.parting.Differences.part_rows.Goals as goal

pub returns-else-part_one : goal.returns-else-part_one
returns-else-part_one c = rw c.if-part_one.false (search mine)

pub returns-then-part_one : goal.returns-then-part_one
returns-then-part_one c = search mine
