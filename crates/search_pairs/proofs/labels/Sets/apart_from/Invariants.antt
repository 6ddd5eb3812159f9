-- `search_pairs::labels::Sets::apart_from` meets its contract. The invariant: the members before the place are not kept apart from a.
-- Assumes nothing.
use Prim.Native.Nat.{◌-◌}
use Rattle.search_pairs.proofs.Joining.{Parting}
use Rattle.search_pairs.proofs.labels.Sets.apart_from.Given as goal

abbrev pub invariant-loop-k : goal.invariant-loop-k
invariant-loop-k l = Parting l.self.n l.self.sets.now l.labels l.a l.y l.base l.from

abbrev pub decreases-loop-k : goal.decreases-loop-k
decreases-loop-k l = l.self.n - l.from
