-- `search::later` meets its contract.
-- Assumes nothing.
use Rattle.search.proofs.Next.{later-is}
use borrow.Author.Rules.{rules}
use Rattle.search.proofs.later.Goals as goal

pub returns : goal.returns
returns c = (later-is _ _ _ _ _ _ _ _ (search rules) c.from.ensures c.from-2.ensures c.from-3.ensures c.from-4.ensures c.from-k.ensures c.from-5.ensures, search rules)
