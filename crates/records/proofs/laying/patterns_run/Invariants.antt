-- `patterns_run` meets its contract. The invariant: the first i pieces are written. The measure is how many are left.
-- Assumes nothing.
use Prim.Native.Nat.{◌-◌}
use Rattle.runs.specs.Limits.{most_patterns, pattern_size}
use Rattle.records.specs.Layouts.{pattern_piece}
use Rattle.records.proofs.Filling.{Laying}
use Rattle.records.proofs.laying.patterns_run.Given as goal

abbrev pub invariant-loop-i : goal.invariant-loop-i
invariant-loop-i l = Laying (pattern_piece l.k) pattern_size most_patterns l.i-end l.run l.i
