use mathlib.Core.Path.{refl}
use Rattle.search_pairs.proofs.Seeking.{walking-step}
use Rattle.search_pairs.proofs.Closed.seek.Goals as goal

pub loop-k-preserved : goal.loop-k-preserved
loop-k-preserved c = walking-step _ _ _ _ _ _ _ _ c.loop-k.invariant _ _ c.in-Some.ensures c.in_default-seek_over.ensures refl
