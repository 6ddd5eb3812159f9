-- `breaches::answer` meets its contract: the first line and the list are what has to be printed.
-- Assumes nothing.
use Rattle.listing.proofs.Output.{opened-lent}
use Rattle.breaches.proofs.Handing.{head-heads, head-whole}
use Rattle.breaches.proofs.answer.Goals as goal

pub hand_head-requires : goal.hand_head-requires
hand_head-requires g c = rw c.as_bytes.ensures (head-heads _ _ c.open-opened.ensures.opens)

pub list-requires : goal.list-requires
list-requires g c = opened-lent _ _ c.open-opened.ensures.opens _ c.unknown-known.ensures

pub returns : goal.returns
returns g c =
    head-whole _ _ c.open-opened.ensures.opens _ _ _ (rw c.as_bytes.ensures at c.in_ok-head.ensures) c.in_ok-rest.ensures c.and.ensures.both
