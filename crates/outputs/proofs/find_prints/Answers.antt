-- `outputs::find_prints` meets its contract: refusal 11 first, and then the line of the finder's reply.
-- Assumes nothing.
use Rattle.outputs.proofs.Printing.{mine}
use Rattle.outputs.proofs.find_prints.Goals as goal

pub returns-then-input-gt-INPUT_LIMIT : goal.returns-then-input-gt-INPUT_LIMIT
returns-then-input-gt-INPUT_LIMIT c = search mine

pub returns : goal.returns
returns c = search mine
