-- `normal::put_joins` meets its contract. The invariant: the equations before row i are put, and those that are left fit. The measure is the number of rows left.
-- Assumes nothing.
use Rattle.normaliser.specs.Pieces.{join_piece}
use Rattle.reply_lines.proofs.Running.{Running}
use Rattle.normaliser.proofs.normal.put_joins.Given as goal

abbrev pub invariant-loop-i : goal.invariant-loop-i
invariant-loop-i l = Running (join_piece l.table) l.n l.initial.lent l.at l.i l.to l.lent
