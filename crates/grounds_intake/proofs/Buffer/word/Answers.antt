-- `Buffer::word` meets its contract: of a malformed line every word is 0.
-- Assumes nothing.
use Rattle.grounds_intake.proofs.Ways.{mine}
use Rattle.grounds_intake.proofs.Buffer.word.Goals as goal

pub returns-then-formed : goal.returns-then-formed
returns-then-formed c = search mine

pub returns-else-formed : goal.returns-else-formed
returns-else-formed c = search mine
