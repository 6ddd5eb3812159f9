-- `search_pairs::labels::Sets::stand_beside` meets its contract. The bit of y in the set of x.
-- Assumes nothing.
use borrow.Author.Rules.{rules}
use Rattle.search_pairs.proofs.Asking.{read_set, read-room}
use Rattle.search_pairs.proofs.labels.Sets.stand_beside.Goals as goal

pub member-requires : goal.member-requires
member-requires c = read-room _ _ _ _ _ c.start.ensures (search rules) (search rules) (search rules)

pub returns : goal.returns
returns c = read_set _ _ _ _ _ _ c.start.ensures c.member.ensures
