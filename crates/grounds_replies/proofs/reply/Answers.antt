-- `grounds_replies::reply` meets its contract. Each way out is one case of how much was taken in.
-- Assumes nothing.
use Rattle.grounds_replies.proofs.Ways.{mine, prints-eleven}
use Rattle.grounds_replies.proofs.reply.Goals as goal

pub returns-then-p-gt-INPUT_LIMIT : goal.returns-then-p-gt-INPUT_LIMIT
returns-then-p-gt-INPUT_LIMIT c = record { prints = prints-eleven _ _ _ _ c.then-p-gt-INPUT_LIMIT.either c.over_line.ensures }

pub returns : goal.returns
returns c = record { prints = search mine }
