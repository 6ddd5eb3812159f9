-- `search_pairs::labels::Sets::lower` meets its contract. Marks, labels, and the class that gave way is known.
-- Assumes nothing.
use mathlib.Core.Path.{refl}
use borrow.Author.Rules.{rules}
use Rattle.search_pairs.proofs.Joining.{lower-laid, lower-joined, joins}
use Rattle.search_pairs.proofs.labels.Sets.lower.Goals as goal

pub relabel-requires : goal.relabel-requires
relabel-requires c =
    record { space = search joins; labelled = lower-laid _ _ _ _ _ _ (search rules) c.mark_over.ensures; lo_lt_hi = search joins; own = search joins }

pub returns : goal.returns
returns c =
    lower-joined _ _ _ _ _ _ _ _ _ _ _ _ c.requires.lo_lt_hi c.lighter-z.ensures c.mark_over.ensures c.relabel.ensures c.words.ensures refl
    c.insert.ensures
