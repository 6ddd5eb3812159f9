-- `search_plan::reach_numbers` meets its contract.
-- Assumes nothing.
use Rattle.search_plan.proofs.Planning.{mine}
use Rattle.search_plan.proofs.reach_numbers.Goals as goal

pub pattern_count-n-requires : goal.pattern_count-n-requires
pattern_count-n-requires c = search mine

pub sets-requires : goal.sets-requires
sets-requires c = record { every = search mine; sets_len = search mine }

pub returns : goal.returns
returns c = search mine
