-- `search_pairs::labels::relabel` meets its contract. The invariant: a class has its label, or is still to be looked at.
-- Assumes nothing.
use Prim.Native.Nat.{◌-◌}
use Rattle.search_pairs.proofs.Joining.{Relabelling}
use Rattle.search_pairs.proofs.labels.relabel.Given as goal

abbrev pub invariant-loop-k : goal.invariant-loop-k
invariant-loop-k l = Relabelling l.n l.lo l.hi l.w l.fn.labels l.labels l.work l.from

abbrev pub decreases-loop-k : goal.decreases-loop-k
decreases-loop-k l = l.n - l.from
