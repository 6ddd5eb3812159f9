-- `search_pairs::labels::Sets::mark_over` meets its contract. The invariant: the rows over the members before the place are marked.
-- Assumes nothing.
use Prim.Native.Nat.{◌-◌}
use Rattle.search_pairs.proofs.Joining.{Marking}
use Rattle.search_pairs.proofs.labels.Sets.mark_over.Given as goal

abbrev pub invariant-loop-k : goal.invariant-loop-k
invariant-loop-k l = Marking l.self.n l.self.sets.now l.labels l.z l.w l.initial.work l.work l.from

abbrev pub decreases-loop-k : goal.decreases-loop-k
decreases-loop-k l = l.self.n - l.from
