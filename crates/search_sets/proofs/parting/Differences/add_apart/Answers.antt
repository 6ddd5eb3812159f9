-- `search_sets::parting::Differences::add_apart` meets its contract.
-- Assumes nothing.
use Rattle.search_sets.proofs.Parts.{mine}
use Rattle.search_sets.proofs.parting.Differences.add_apart.Goals as goal

pub returns : goal.returns
returns c = search mine
