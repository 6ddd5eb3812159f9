-- `search_plan::planned` meets its contract.
-- Assumes nothing.
use Rattle.search_plan.proofs.Planning.{mine}
use Rattle.search_plan.proofs.planned.Goals as goal

pub pattern_count-n-requires : goal.pattern_count-n-requires
pattern_count-n-requires c = search mine

pub variables-variables-requires : goal.variables-variables-requires
variables-variables-requires c = search mine

pub level_numbers-levels-requires : goal.level_numbers-levels-requires
level_numbers-levels-requires c = search mine

pub ordered-requires : goal.ordered-requires
ordered-requires c = search mine

pub reach_numbers-reach-requires : goal.reach_numbers-reach-requires
reach_numbers-reach-requires c = search mine

pub asked-asked-requires : goal.asked-asked-requires
asked-asked-requires c = search mine

pub never-never-requires : goal.never-never-requires
never-never-requires c = search mine

pub returns : goal.returns
returns c = search mine
