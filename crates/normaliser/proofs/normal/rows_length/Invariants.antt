-- `normal::rows_length` meets its contract. The invariant: the sum is the size of the lines of the rows before row i.
-- Assumes nothing.
use Rattle.normaliser.specs.Rooms.{row_length, rows_size}
use Rattle.normaliser.proofs.Rows.{Sizing}
use Rattle.normaliser.proofs.normal.rows_length.Given as goal

abbrev pub invariant-loop-i : goal.invariant-loop-i
invariant-loop-i l = Sizing (rows_size l.rows) row_length l.i-end l.i l.sum
