-- `writer::write` meets its contract. The refusals in their order, and then what the search found.
-- Assumes nothing.
use Rattle.writer.proofs.Writing.{mine}
use Rattle.writer.proofs.write.Goals as goal

pub returns-in-Err : goal.returns-in-Err
returns-in-Err c = search mine

pub returns-then-cramped : goal.returns-then-cramped
returns-then-cramped c = search mine

pub rows-requires : goal.rows-requires
rows-requires c = search mine

pub said-requires : goal.said-requires
said-requires c = search mine

pub patterns-requires : goal.patterns-requires
patterns-requires c = search mine

pub literals-requires : goal.literals-requires
literals-requires c = search mine

pub seek-requires-clause-seekable : goal.seek-requires-clause-seekable
seek-requires-clause-seekable c = search mine

pub returns : goal.returns
returns c = search mine
