-- `normal::put_text` meets its contract: each part is put where the one before it ends.
-- Assumes nothing.
use Rattle.normaliser.proofs.Whole.{mine}
use Rattle.normaliser.proofs.normal.put_text.Goals as goal

pub returns : goal.returns
returns c = search mine
