-- `runs::fit::rows_placed` meets its contract. The invariant: the first i rows are well-formed. The measure is how many are left.
-- Assumes nothing.
use Rattle.runs.specs.Runs.{row_count}
use Rattle.runs.specs.Fit.{RowAt}
use Rattle.runs.proofs.Deciding.{Checked}
use Rattle.runs.proofs.fit.rows_placed.Given as goal

abbrev pub invariant-loop-i : goal.invariant-loop-i
invariant-loop-i l = Checked (RowAt l.rows) (row_count l.rows) l.n l.i
