-- `grounds_replies::outcome_line` meets its contract. Each way out is one sort of answer.
-- Assumes nothing.
use Rattle.grounds_replies.proofs.Ways.{mine}
use Rattle.grounds_replies.proofs.outcome_line.Goals as goal

pub returns-in-Err : goal.returns-in-Err
returns-in-Err c = search mine
