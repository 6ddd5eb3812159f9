-- `values::value::term` and `values::value::walk` meet their contracts. They call each other. The measure is eight times the row, and above it five for a term and the
-- places left for a walk.
-- Assumes nothing.
use Prim.Native.Nat.{◌+◌, ◌*◌, ◌-◌}
use Rattle.values.proofs.value.+term_walk.Given as goal

abbrev pub decreases-term : goal.decreases-term
decreases-term l = l.row * 8 + 5

abbrev pub decreases-walk : goal.decreases-walk
decreases-walk l = l.row * 8 + (4 - l.k)
