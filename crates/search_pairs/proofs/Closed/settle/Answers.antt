-- `search_pairs::Closed::settle` meets its contract. The answer is right, and so is the memo with it.
-- Assumes nothing.
use Rattle.search_pairs.proofs.Recalling.{asks}
use Rattle.search_pairs.proofs.Closed.settle.Goals as goal

pub ask_anew-r-requires : goal.ask_anew-r-requires
ask_anew-r-requires c = record { laid = search asks; inside = search asks; rows_in_bounds = search asks; blank = search asks }

pub returns : goal.returns
returns c = search asks
