-- `search_sets::Layout::meet_known` meets its contract.
-- Assumes nothing.
use Rattle.search_sets.proofs.Equals.{mine}
use Rattle.search_sets.proofs.Layout.meet_known.Goals as goal

pub returns-then-out : goal.returns-then-out
returns-then-out c = rw c.if-out.true (search mine)

pub narrow_both-requires : goal.narrow_both-requires
narrow_both-requires c = search mine

pub returns-else-out : goal.returns-else-out
returns-else-out c = search mine
