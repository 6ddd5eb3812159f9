-- `Buffer::assigns` meets its contract: each test that fails is a law, and none.
-- Assumes nothing.
use Rattle.grounds_intake.proofs.Ways.{mine}
use Rattle.grounds_intake.proofs.Buffer.assigns.Goals as goal
use Rattle.grounds_intake.proofs.Buffer.assigns.Goals.{then-self, else-self}

pub returns-then-n-le-VARIABLES : goal.returns-then-n-le-VARIABLES
returns-then-n-le-VARIABLES c =
    elim c.if-self.branch [
      | then-self w ↦ search mine
      | else-self w ↦ search mine
    ]

pub returns-else-n-le-VARIABLES : goal.returns-else-n-le-VARIABLES
returns-else-n-le-VARIABLES c =
    elim c.if-self.branch [
      | then-self w ↦ search mine
      | else-self w ↦ search mine
    ]
