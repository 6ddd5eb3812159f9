-- `search_pairs::Closed::mate` meets its contract. A row without arguments agrees with rows of its class only; else one place is enough.
-- Assumes nothing.
use Rattle.search_pairs.proofs.Seeking.{mine}
use Rattle.search_pairs.proofs.Closed.mate.Goals as goal

pub seek-requires : goal.seek-requires
seek-requires c = record { laid = search mine; rows_in_bounds = search mine; space = search mine; labelled = search mine; r_bound = search mine; own = search mine }

pub returns-then-count_in-eq0 : goal.returns-then-count_in-eq0
returns-then-count_in-eq0 c = search mine

pub returns : goal.returns
returns c = search mine
