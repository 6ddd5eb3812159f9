-- `Parser::take` meets its contract: a law for each kind of byte.
-- Assumes nothing.
use Rattle.grounds_intake.proofs.Ways.{ends}
use Rattle.grounds_intake.proofs.Parser.take.Goals as goal

pub returns-in-Assignment-eq10 : goal.returns-in-Assignment-eq10
returns-in-Assignment-eq10 c = search ends

pub returns-in-Grounds-eq10 : goal.returns-in-Grounds-eq10
returns-in-Grounds-eq10 c = search ends

pub returns-in_default : goal.returns-in_default
returns-in_default c = search ends

pub returns-in-Assignment-default : goal.returns-in-Assignment-default
returns-in-Assignment-default c = search ends
