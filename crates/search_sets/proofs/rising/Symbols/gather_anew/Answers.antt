-- `search_sets::rising::Symbols::gather_anew` meets its contract.
-- Assumes nothing.
use Rattle.search_sets.proofs.Gathering.{mine}
use Rattle.search_sets.proofs.rising.Symbols.gather_anew.Goals as goal

pub returns : goal.returns
returns c = search mine
