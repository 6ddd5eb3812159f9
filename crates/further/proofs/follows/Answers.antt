-- `further::follows` meets its contract: a first clash, or none.
-- Assumes nothing.
use Rattle.further.proofs.Wider.{follows-is}
use Rattle.further.proofs.follows.Goals as goal

pub returns : goal.returns
returns c = follows-is _ _ _ _ c.clash.ensures.clashes c.is_some.ensures
