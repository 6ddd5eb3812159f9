-- `grounds_classes::sides::right_at` meets its contract.
-- Assumes nothing.
use Rattle.grounds_classes.proofs.Rounding.{siding}
use Rattle.grounds_classes.proofs.sides.right_at.Goals as goal

pub returns-then-i-pair_count : goal.returns-then-i-pair_count
returns-then-i-pair_count c = search siding

pub returns-else-i-pair_count : goal.returns-else-i-pair_count
returns-else-i-pair_count c = search siding
