-- `pieces::clash` meets its contract, by what is compared.
-- Assumes nothing.
use Rattle.text_reader.proofs.Agreeing.{mine}
use Rattle.text_reader.proofs.pieces.clash.Goals as goal
use Rattle.text_reader.proofs.pieces.clash.Goals.{then-g-f, else-g-f}

pub returns : goal.returns
returns c = elim c.if-g-f.branch [ then-g-f w ↦ search mine | else-g-f w ↦ search mine ]
