-- `search_sets::parting::Differences::part_known` meets its contract.
-- Assumes nothing.
use Rattle.search_sets.proofs.Differing.{mine}
use Rattle.search_sets.proofs.parting.Differences.part_known.Goals as goal

pub cut_left-requires : goal.cut_left-requires
cut_left-requires c = record { cuttable = search mine; width_le_most_words = search mine }

pub returns : goal.returns
returns c = search mine
