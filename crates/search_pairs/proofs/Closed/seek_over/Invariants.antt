-- `search_pairs::Closed::seek_over` meets its contract. The invariant: no row over the class before the place agrees and has another label.
-- Assumes nothing.
use Prim.Native.Nat.{◌-◌}
use Rattle.search_pairs.proofs.Seeking.{Passing}
use Rattle.search_pairs.proofs.Closed.seek_over.Given as goal

abbrev pub invariant-loop-s : goal.invariant-loop-s
invariant-loop-s l = Passing l.self.rows.now l.self.table.now l.self.sets.now l.labels l.a l.r l.n l.base l.from

abbrev pub decreases-loop-s : goal.decreases-loop-s
decreases-loop-s l = l.n - l.from
