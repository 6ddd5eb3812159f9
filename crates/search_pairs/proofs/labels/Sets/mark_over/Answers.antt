use mathlib.Core.Path.{refl}
use Rattle.search_pairs.proofs.Joining.{marking_step}
use Rattle.search_pairs.proofs.labels.Sets.mark_over.Goals as goal

pub loop-k-preserved : goal.loop-k-preserved
loop-k-preserved c = marking_step _ _ _ _ _ _ _ _ c.loop-k.invariant _ _ c.in-Some.ensures c.start.ensures _ _ c.unite.ensures refl
