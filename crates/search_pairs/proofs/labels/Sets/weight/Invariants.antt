-- `search_pairs::labels::Sets::weight` meets its contract. The invariant bounds the sum, so that it fits.
-- Assumes nothing.
use Rattle.search_pairs.proofs.Joining.{Weighing}
use Rattle.search_pairs.proofs.labels.Sets.weight.Given as goal

abbrev pub invariant-loop-i : goal.invariant-loop-i
invariant-loop-i l = Weighing l.self.n l.a l.w l.base l.sum l.i
