-- `classes::statements::either` meets its contract. The sides are the same in one order or in the other.
-- Assumes nothing.
use Rattle.classes.proofs.Clashes.{mine}
use Rattle.classes.proofs.statements.either.Goals.{then-a-p, else-a-p}
use Rattle.classes.proofs.statements.either.Goals as goal

pub returns-then-b-q : goal.returns-then-b-q
returns-then-b-q c = elim c.if-a-p.branch [ then-a-p w ↦ search mine | else-a-p w ↦ search mine ]

pub returns-then-b-p : goal.returns-then-b-p
returns-then-b-p c = search mine

pub returns-else-b-p : goal.returns-else-b-p
returns-else-b-p c = search mine
