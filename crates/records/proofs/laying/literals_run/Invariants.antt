-- `literals_run` meets its contract. The invariant: the first i pieces are written. The measure is how many are left.
-- Assumes nothing.
use Prim.Native.Nat.{◌-◌}
use Rattle.runs.specs.Limits.{most_literals, literal_size}
use Rattle.records.specs.Layouts.{literal_piece}
use Rattle.records.proofs.Filling.{Laying}
use Rattle.records.proofs.laying.literals_run.Given as goal

abbrev pub invariant-loop-i : goal.invariant-loop-i
invariant-loop-i l = Laying (literal_piece l.k) literal_size most_literals l.i-end l.run l.i
