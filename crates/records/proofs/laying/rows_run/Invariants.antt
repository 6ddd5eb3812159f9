-- `rows_run` meets its contract. The invariant: the first i pieces are written. The measure is how many are left.
-- Assumes nothing.
use Prim.Native.Nat.{◌-◌}
use Rattle.runs.specs.Limits.{most_rows, row_size}
use Rattle.records.specs.Layouts.{row_piece}
use Rattle.records.proofs.Filling.{Laying}
use Rattle.records.proofs.laying.rows_run.Given as goal

abbrev pub invariant-loop-i : goal.invariant-loop-i
invariant-loop-i l = Laying (row_piece l.rows) row_size most_rows l.i-end l.run l.i
