-- `grounds_replies::verdict_line` meets its contract. Each way out is one sort of verdict.
-- Assumes nothing.
use Rattle.grounds_replies.proofs.Ways.{mine}
use Rattle.grounds_replies.proofs.verdict_line.Goals as goal

pub returns-in-Ok : goal.returns-in-Ok
returns-in-Ok c = search mine
