-- `normal::join_length` meets its contract, by cases on whether the row is its own representative.
-- Assumes nothing.
use Rattle.normaliser.proofs.Pairs.{mine}
use Rattle.normaliser.proofs.normal.join_length.Goals as goal

pub returns-then-from-i : goal.returns-then-from-i
returns-then-from-i c = search mine

pub returns-else-from-i : goal.returns-else-from-i
returns-else-from-i c = search mine
