-- `grounds_words::words::new_of` meets its contract. The number is 0, in the column, or past it.
-- Assumes nothing.
use borrow.Author.Rules.{rules}
use Rattle.grounds_words.proofs.Wording.{mine, new-at}
use Rattle.grounds_words.proofs.words.new_of.Goals as goal

pub returns-then-r-eq0 : goal.returns-then-r-eq0
returns-then-r-eq0 c = search mine

pub returns : goal.returns
returns c = new-at c.args.news.now c.args.r (search rules) (search rules)
