-- `search_sets::rising::Symbols::add_arg` meets its contract.
-- Assumes nothing.
use Rattle.search_sets.proofs.Seeing.{mine}
use Rattle.search_sets.proofs.rising.Symbols.add_arg.Goals as goal

pub returns : goal.returns
returns c = search mine
