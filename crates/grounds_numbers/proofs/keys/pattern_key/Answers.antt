-- `grounds_numbers::keys::pattern_key` meets its contract: the symbol and the count are the pattern row's, and the places have the numbers of its arguments.
-- Assumes nothing.
use Rattle.grounds_numbers.proofs.Keying.{mine}
use Rattle.grounds_numbers.proofs.keys.pattern_key.Goals as goal

pub returns : goal.returns
returns c = search mine
