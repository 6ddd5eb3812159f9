-- `search_plan::level_numbers` meets its contract.
-- Assumes nothing.
use Rattle.search_plan.proofs.Planning.{mine}
use Rattle.search_plan.proofs.level_numbers.Goals as goal

pub pattern_count-n-requires : goal.pattern_count-n-requires
pattern_count-n-requires c = search mine

pub levels-requires : goal.levels-requires
levels-requires c = record { every = search mine; levels_len = search mine }

pub returns : goal.returns
returns c = search mine
