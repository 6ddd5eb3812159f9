-- `search_values::fill` meets its contract. The invariant: the keys of the first i rows are written. The measure is the number of rows left.
-- Assumes nothing.
use Rattle.search_values.proofs.Indexing.{Filling}
use Rattle.search_values.proofs.fill.Given as goal

abbrev pub invariant-loop-i : goal.invariant-loop-i
invariant-loop-i l = Filling l.rows l.n l.keys l.i
