-- `search_sets::rising::Symbols::rise_known` meets its contract.
-- Assumes nothing.
use Rattle.search_sets.proofs.Risen.{mine}
use Rattle.search_sets.proofs.rising.Symbols.rise_known.Goals as goal

pub returns : goal.returns
returns c = search mine
