-- `search_pairs::Closed::seek` meets its contract. The invariant: the members before the place have no such row over them.
-- Assumes nothing.
use Prim.Native.Nat.{◌-◌}
use Rattle.search_pairs.proofs.Seeking.{Walking}
use Rattle.search_pairs.proofs.Closed.seek.Given as goal

abbrev pub invariant-loop-k : goal.invariant-loop-k
invariant-loop-k l = Walking l.self.rows.now l.self.table.now l.self.sets.now l.labels l.z l.r l.n l.from

abbrev pub decreases-loop-k : goal.decreases-loop-k
decreases-loop-k l = l.n - l.from
