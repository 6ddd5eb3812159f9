-- `classes::mates::chain` meets its contract. The key starts from the symbol, and the arguments are mixed in.
-- Assumes nothing.
use Rattle.classes.proofs.Rows.{mine}
use Rattle.classes.proofs.mates.chain.Goals as goal

pub returns : goal.returns
returns c = search mine
