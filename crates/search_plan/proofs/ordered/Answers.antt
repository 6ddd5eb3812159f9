-- `search_plan::ordered` meets its contract.
-- Assumes nothing.
use Rattle.search_plan.proofs.Planning.{mine}
use Rattle.search_plan.proofs.ordered.Goals as goal

pub arrange-ends-requires : goal.arrange-ends-requires
arrange-ends-requires c = record { levels_in_bounds = search mine; rows_len_bound = search mine; blank = search mine }

pub returns : goal.returns
returns c = search mine
