-- `search_pairs::follow::own_labels` meets its contract. The invariant: the classes before the place have their own labels again.
-- Assumes nothing.
use Prim.Native.Nat.{◌-◌}
use Rattle.search_pairs.proofs.Back.{Restoring}
use Rattle.search_pairs.proofs.follow.own_labels.Given as goal

abbrev pub invariant-loop-k : goal.invariant-loop-k
invariant-loop-k l = Restoring l.n l.w l.initial.labels l.labels l.work l.from

abbrev pub decreases-loop-k : goal.decreases-loop-k
decreases-loop-k l = l.n - l.from
