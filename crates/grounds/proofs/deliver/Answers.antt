-- `grounds::deliver` meets its contract: the line and the lines of the grounds are what has to be printed.
-- Assumes nothing.
use Rattle.grounds.proofs.Handing.{line-finds, head-whole}
use Rattle.grounds.proofs.deliver.Goals as goal

pub hand_line-requires : goal.hand_line-requires
hand_line-requires g c = rw c.as_bytes.ensures (line-finds _ _ _ c.requires)

pub returns : goal.returns
returns g c = head-whole _ _ _ c.requires _ _ _ (rw c.as_bytes.ensures at c.in_ok-head.ensures) c.in_ok-rest.ensures c.and.ensures.both
