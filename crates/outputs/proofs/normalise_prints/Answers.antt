-- `outputs::normalise_prints` meets its contract: refusal 11 first, and then a law for each answer.
-- Assumes nothing.
use Rattle.outputs.proofs.Outputs.{mine}
use Rattle.outputs.proofs.normalise_prints.Goals as goal

pub returns-then-input-gt-INPUT_LIMIT : goal.returns-then-input-gt-INPUT_LIMIT
returns-then-input-gt-INPUT_LIMIT c = search mine

pub returns-in-Ok : goal.returns-in-Ok
returns-in-Ok c = search mine

pub returns-in-Err : goal.returns-in-Err
returns-in-Err c = search mine
