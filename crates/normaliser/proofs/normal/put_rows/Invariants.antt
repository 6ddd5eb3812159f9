-- `normal::put_rows` meets its contract. The invariant: the lines of the first i rows are put, and those that are left fit.
-- Assumes nothing.
use Rattle.normaliser.specs.Pieces.{row_piece}
use Rattle.reply_lines.proofs.Running.{Running}
use Rattle.normaliser.proofs.normal.put_rows.Given as goal

abbrev pub invariant-loop-i : goal.invariant-loop-i
invariant-loop-i l = Running (row_piece l.rows) l.i-end l.initial.lent l.at l.i l.to l.lent
