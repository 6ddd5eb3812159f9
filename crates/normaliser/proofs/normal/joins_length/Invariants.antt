-- `normal::joins_length` meets its contract. The invariant: the sum is the size of the equations before row i. The measure is the number of rows left.
-- Assumes nothing.
use Rattle.normaliser.specs.Rooms.{pair_length, joins_size}
use Rattle.normaliser.proofs.Rows.{Sizing}
use Rattle.normaliser.proofs.normal.joins_length.Given as goal

abbrev pub invariant-loop-i : goal.invariant-loop-i
invariant-loop-i l = Sizing (joins_size l.table) pair_length l.n l.i l.sum
