-- `Parser::assign` meets its contract: the places of the line, and a line that is empty.
-- Assumes nothing.
use Rattle.grounds_intake.proofs.Ways.{mine}
use Rattle.grounds_intake.proofs.Parser.assign.Goals as goal

pub returns : goal.returns
returns c = search mine
