-- `normal::put_join` meets its contract, by cases on whether the row is its own representative.
-- Assumes nothing.
use Rattle.normaliser.proofs.Pairs.{mine}
use Rattle.normaliser.proofs.normal.put_join.Goals as goal

pub returns-then-from-i : goal.returns-then-from-i
returns-then-from-i c = search mine

pub put_frame-requires : goal.put_frame-requires
put_frame-requires c = search mine

pub returns : goal.returns
returns c = search mine
