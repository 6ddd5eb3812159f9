-- `search_sets::rising::Symbols::sink_known` meets its contract.
-- Assumes nothing.
use Rattle.search_sets.proofs.Sunk.{mine}
use Rattle.search_sets.proofs.rising.Symbols.sink_known.Goals as goal

pub returns-then-see_anew : goal.returns-then-see_anew
returns-then-see_anew c = search mine

pub returns : goal.returns
returns c = search mine
