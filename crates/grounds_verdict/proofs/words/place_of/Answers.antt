-- `grounds_verdict::words::place_of` meets its contract. 0 is no place, nor is what is past the last.
-- Assumes nothing.
use Rattle.grounds_verdict.proofs.Numbers.{mine}
use Rattle.grounds_verdict.proofs.words.place_of.Goals as goal

pub returns-else-x-gt0 : goal.returns-else-x-gt0
returns-else-x-gt0 c = search mine
