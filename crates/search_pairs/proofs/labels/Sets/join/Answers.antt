-- `search_pairs::labels::Sets::join` meets its contract. The lower label stays, either way round.
-- Assumes nothing.
use Rattle.search_pairs.proofs.Joining.{joins}
use Rattle.search_pairs.proofs.labels.Sets.join.Goals as goal

pub lower-requires : goal.lower-requires
lower-requires c = record { space = search joins; labelled = search joins; n_in_bounds = search joins; labels = search joins; lo_lt_hi = search joins }

pub returns : goal.returns
returns c = search joins
