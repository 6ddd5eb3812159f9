-- `Parser::end_line` meets its contract: a conclusion is noted, and any other line is a step.
-- Assumes nothing.
use Rattle.grounds_intake.proofs.Ways.{ends}
use Rattle.grounds_intake.proofs.Parser.end_line.Goals as goal

pub returns-then-formed : goal.returns-then-formed
returns-then-formed c = search ends

pub returns-else-formed : goal.returns-else-formed
returns-else-formed c = search ends
