-- `said_run` meets its contract. The invariant: the first i pieces are written. The measure is how many are left.
-- Assumes nothing.
use Prim.Native.Nat.{◌-◌}
use Rattle.runs.specs.Limits.{most_statements, said_size}
use Rattle.records.specs.Layouts.{said_piece}
use Rattle.records.proofs.Filling.{Laying}
use Rattle.records.proofs.laying.said_run.Given as goal

abbrev pub invariant-loop-i : goal.invariant-loop-i
invariant-loop-i l = Laying (said_piece l.s) said_size most_statements l.i-end l.run l.i
