-- `grounds_numbers::pairs::kept` meets its contract: by the kind, and by what is asked for.
-- Assumes nothing.
use Rattle.grounds_numbers.proofs.Pairing.{mine}
use Rattle.grounds_numbers.proofs.pairs.kept.Goals as goal

pub returns : goal.returns
returns c = search mine
