use Rattle.listing.proofs.Filling.{filling_step, filling-less, filling-stop, filling-wait, mine}
use Rattle.listing.proofs.fill.Goals as goal

pub returns-then-space-used-clause-fills : goal.returns-then-space-used-clause-fills
returns-then-space-used-clause-fills c =
    filling-wait _ _ _ _ _ _ _ _ c.loop-e.invariant.1 c.in-Some.e c.in-Some.ensures.entry_at _ c.as_bytes-line.ensures c.if-space-used.true

pub loop-e-smaller : goal.loop-e-smaller
loop-e-smaller c =
    filling-less _ _ _ _ _ _ _ _ c.loop-e.invariant.1 c.in-Some.e c.in-Some.ensures.entry_at _ c.as_bytes-line.ensures c.if-space-used.false _ c.copy_from_slice.ensures.after

pub loop-e-preserved : goal.loop-e-preserved
loop-e-preserved c = (
  search mine,
  filling_step _ _ _ _ _ _ _ _ c.loop-e.invariant.1 c.in-Some.e c.in-Some.ensures.entry_at _ c.as_bytes-line.ensures c.if-space-used.false _ c.copy_from_slice.ensures.after,
)

pub returns-clause-fills : goal.returns-clause-fills
returns-clause-fills c = filling-stop _ _ _ _ _ _ _ _ c.loop-e.invariant.1 c.in_default.ensures.entry_at
