-- `search_sets::rising::arg_fixed` meets its contract.
-- Assumes nothing.
use Rattle.search_sets.proofs.Arguments.{mine}
use Rattle.search_sets.proofs.rising.arg_fixed.Goals as goal

pub returns-else-not-marked : goal.returns-else-not-marked
returns-else-not-marked c = rw c.if-not-marked.false (search mine)
