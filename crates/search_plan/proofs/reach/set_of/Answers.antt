-- `search_plan::reach::set_of` meets its contract.
-- Assumes nothing.
use Rattle.search_plan.proofs.Args.{mine}
use Rattle.search_plan.proofs.reach.set_of.Goals as goal

pub is_variable-requires : goal.is_variable-requires
is_variable-requires c = search mine

pub head_in-requires : goal.head_in-requires
head_in-requires c = search mine

pub only-requires : goal.only-requires
only-requires c = search mine

pub returns-then-is_variable : goal.returns-then-is_variable
returns-then-is_variable c = search mine

pub union-requires : goal.union-requires
union-requires c = search mine

pub returns : goal.returns
returns c = search mine
