-- `search_pairs::labels::Sets::clashing` meets its contract. The invariant: the members before the place clash with none.
-- Assumes nothing.
use Prim.Native.Nat.{◌-◌}
use Rattle.search_pairs.proofs.Joining.{Clearing}
use Rattle.search_pairs.proofs.labels.Sets.clashing.Given as goal

abbrev pub invariant-loop-k : goal.invariant-loop-k
invariant-loop-k l = Clearing l.self.n l.self.sets.now l.labels l.x l.y l.from

abbrev pub decreases-loop-k : goal.decreases-loop-k
decreases-loop-k l = l.self.n - l.from
