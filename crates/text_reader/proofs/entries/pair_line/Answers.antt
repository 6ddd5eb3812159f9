-- `entries::pair_line` meets its contract: a law for each look-up that fails, and one for none.
-- Assumes nothing.
use Rattle.text_reader.proofs.Ways.{mine}
use Rattle.text_reader.proofs.entries.pair_line.Goals as goal

pub returns-then-not-room : goal.returns-then-not-room
returns-then-not-room c = search mine

pub returns-in_err-left : goal.returns-in_err-left
returns-in_err-left c = search mine

pub returns-in_err-right : goal.returns-in_err-right
returns-in_err-right c = search mine

pub returns : goal.returns
returns c = search mine
