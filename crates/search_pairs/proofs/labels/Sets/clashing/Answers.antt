use mathlib.Core.Path.{refl}
use Rattle.search_pairs.proofs.Joining.{clearing-step}
use Rattle.search_pairs.proofs.labels.Sets.clashing.Goals as goal

pub loop-k-preserved : goal.loop-k-preserved
loop-k-preserved c = clearing-step _ _ _ _ _ _ _ c.loop-k.invariant c.in-Some.ensures _ c.apart_from.ensures _ c.if-apart_from.false refl
