-- `classes::mates::row_of` meets its contract: 0 is none.
-- Assumes nothing.
use borrow.Author.Rules.{rules}
use Rattle.classes.specs.Steps.{link_of}
use Rattle.classes.proofs.mates.row_of.Goals as goal

pub returns : goal.returns
unfolding link_of
returns c = search rules
