-- `search::hunt::clear` meets its contract.
-- Assumes nothing.
use mathlib.Core.Path.{refl}
use Rattle.search.specs.Hunting.{answer_of}
use Rattle.search.proofs.hunt.clear.Goals as goal

pub returns : goal.returns
unfolding answer_of
returns c = refl
