-- `search_pairs::labels::Sets::lighter` meets its contract. It is the one or the other.
-- Assumes nothing.
use mathlib.Core.Logic.{inl, inr}
use mathlib.Core.Path.{refl}
use Rattle.search_pairs.proofs.labels.Sets.lighter.Goals as goal

pub returns-then-weight : goal.returns-then-weight
returns-then-weight c = inl refl

pub returns-else-weight : goal.returns-else-weight
returns-else-weight c = inr refl
