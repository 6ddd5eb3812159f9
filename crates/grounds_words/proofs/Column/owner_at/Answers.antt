-- `grounds_words::Column::owner_at` meets its contract. The step is shared, or the owner's.
-- Assumes nothing.
use Rattle.grounds_words.proofs.Emitting.{mine}
use Rattle.grounds_words.proofs.Column.owner_at.Goals as goal

pub returns-then-i-self : goal.returns-then-i-self
returns-then-i-self c = search mine

pub returns-else-i-self : goal.returns-else-i-self
returns-else-i-self c = search mine
