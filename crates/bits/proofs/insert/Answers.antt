-- `bits::insert` meets its contract.
-- Assumes nothing.
use Rattle.bits.proofs.Words.{insert-has}
use borrow.Author.Rules.{rules}
use Rattle.bits.proofs.insert.Goals as goal

pub returns : goal.returns
returns c = (search rules, insert-has _ _ _ (search rules))
