-- `Parser::add_step` meets its contract: the words of the line are stored.
-- Assumes nothing.
use Rattle.grounds_intake.proofs.Ways.{ends}
use Rattle.grounds_intake.proofs.Parser.add_step.Goals as goal

pub returns : goal.returns
returns c = search ends
