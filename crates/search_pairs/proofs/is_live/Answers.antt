-- `search_pairs::is_live` meets its contract. The bit of x in the last set.
-- Assumes nothing.
use borrow.Author.Rules.{rules}
use Rattle.search_pairs.proofs.Asking.{read_set, read-room}
use Rattle.search_pairs.proofs.is_live.Goals as goal

pub member-requires : goal.member-requires
member-requires c = read-room _ _ _ _ _ c.start.ensures (search rules) (search rules) (search rules)

pub returns : goal.returns
returns c = read_set _ _ _ _ _ _ c.start.ensures c.member.ensures
