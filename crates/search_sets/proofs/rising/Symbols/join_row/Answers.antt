-- `search_sets::rising::Symbols::join_row` meets its contract.
-- Assumes nothing.
use Rattle.search_sets.proofs.Gathering.{mine}
use Rattle.search_sets.proofs.rising.Symbols.join_row.Goals as goal

pub returns-then-fits : goal.returns-then-fits
returns-then-fits c = search mine
