-- `search_pairs::labels::Sets::meet` meets its contract. Members are kept apart, and nothing changes; or the labels are joined.
-- Assumes nothing.
use Rattle.search_pairs.proofs.Joining.{joins}
use Rattle.search_pairs.proofs.labels.Sets.meet.Goals as goal

pub clashing-requires : goal.clashing-requires
clashing-requires c = record { space = search joins; labelled = search joins; n_in_bounds = search joins; labels = search joins }
