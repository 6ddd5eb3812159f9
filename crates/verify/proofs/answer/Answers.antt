-- `verify::answer` meets its contract: the line for what was taken in.
-- Assumes nothing.
use Rattle.verify.proofs.Runs.{mine}
use Rattle.verify.proofs.answer.Goals as goal

pub returns : goal.returns
returns c = search mine
