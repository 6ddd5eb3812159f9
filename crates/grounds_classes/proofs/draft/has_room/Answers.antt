-- `grounds_classes::draft::has_room` meets its contract.
-- Assumes nothing.
use Rattle.grounds_classes.proofs.Drafting.{mine}
use Rattle.grounds_classes.proofs.draft.has_room.Goals as goal

pub returns-then-n-lt-NUMBERS : goal.returns-then-n-lt-NUMBERS
returns-then-n-lt-NUMBERS c = search mine

pub returns-else-n-lt-NUMBERS : goal.returns-else-n-lt-NUMBERS
returns-else-n-lt-NUMBERS c = search mine
