-- `search_pairs::labels::start` meets its contract. A set has as many words as each other.
-- Assumes nothing.
use mathlib.Core.Path.{refl}
use borrow.Author.Rules.{rules}
use Rattle.search_pairs.proofs.Joining.{set-start}
use Rattle.search_pairs.proofs.labels.start.Goals as goal

pub returns : goal.returns
returns c = set-start _ _ _ _ (search rules) (search rules) c.words.ensures refl
