-- `Buffer::formed` meets its contract: each test that fails is a law, and none.
-- Assumes nothing.
use Rattle.grounds_intake.proofs.Ways.{mine}
use Rattle.grounds_intake.proofs.Buffer.formed.Goals as goal
use Rattle.grounds_intake.proofs.Buffer.formed.Goals.{then-self, else-self}

pub returns-then-self-size : goal.returns-then-self-size
returns-then-self-size c =
    elim c.if-self.branch [
      | then-self w ↦ search mine
      | else-self w ↦ search mine
    ]

pub returns-else-self-size : goal.returns-else-self-size
returns-else-self-size c =
    elim c.if-self.branch [
      | then-self w ↦ search mine
      | else-self w ↦ search mine
    ]
