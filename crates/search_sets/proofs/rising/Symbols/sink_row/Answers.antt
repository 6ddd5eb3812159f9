-- `search_sets::rising::Symbols::sink_row` meets its contract.
-- Assumes nothing.
use Rattle.search_sets.proofs.Sunk.{entered}
use Rattle.search_sets.proofs.rising.Symbols.sink_row.Goals as goal

pub sink_known-requires : goal.sink_known-requires
sink_known-requires c = entered _ _ _ _ _ _ _ _ c.enters.ensures c.if-enters.true
