-- `grounds_numbers::keys::same_key` meets its contract: symbols and arguments are compared in turn.
-- Assumes nothing.
use Rattle.grounds_numbers.proofs.Keying.{mine}
use Rattle.grounds_numbers.proofs.keys.same_key.Goals as goal

pub returns-then-symbol_in : goal.returns-then-symbol_in
returns-then-symbol_in c = search mine

pub returns-else-symbol_in : goal.returns-else-symbol_in
returns-else-symbol_in c = search mine
