-- `search_pairs::prepare::prepare` meets its contract. Blank words, the statements, and then the rest.
-- Assumes nothing.
use borrow.Author.Rules.{rules}
use Rattle.search_pairs.proofs.Living.{told-base, whole}
use Rattle.search_pairs.proofs.prepare.prepare.Goals as goal

pub row_count-n-requires : goal.row_count-n-requires
row_count-n-requires c = search whole

pub empty-requires : goal.empty-requires
empty-requires c = search whole

pub tell_all-requires : goal.tell_all-requires
tell_all-requires c = search whole

pub connect-requires : goal.connect-requires
connect-requires c = told-base _ _ _ _ _ _ (search rules) (search rules) (search rules) c.tell_all.ensures

pub returns : goal.returns
returns c = search whole
