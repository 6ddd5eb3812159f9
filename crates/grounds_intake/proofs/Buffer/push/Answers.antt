-- `Buffer::push` meets its contract: the line is good as long as each byte is a digit.
-- Assumes nothing.
use Rattle.grounds_intake.proofs.Ways.{mine}
use Rattle.grounds_intake.proofs.Buffer.push.Goals as goal
use Rattle.grounds_intake.proofs.Buffer.push.Goals.{then-self, else-self}

pub returns : goal.returns
returns c = elim c.if-self.branch [ then-self w ↦ search mine | else-self w ↦ search mine ]
