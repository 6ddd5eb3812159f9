-- `search_pairs::labels::next_member` meets its contract. The invariant: no class from the bound on and before `at` has the label.
-- Assumes nothing.
use Prim.Native.Nat.{◌-◌}
use Rattle.search_pairs.proofs.Members.{Seeking}
use Rattle.search_pairs.proofs.labels.next_member.Given as goal

abbrev pub invariant-loop-k : goal.invariant-loop-k
invariant-loop-k l = Seeking l.n l.labels l.z l.w l.from l.at

abbrev pub decreases-loop-k : goal.decreases-loop-k
decreases-loop-k l = l.n - l.at
