-- `classes::mates::same_arg` meets its contract: two representatives compared.
-- Assumes nothing.
use Rattle.classes.proofs.Rows.{mine}
use Rattle.classes.proofs.mates.same_arg.Goals as goal

pub returns : goal.returns
returns c = search mine
