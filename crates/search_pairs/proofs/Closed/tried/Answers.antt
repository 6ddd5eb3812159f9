-- `search_pairs::Closed::tried` meets its contract. What following says stays said when labels are taken back.
-- Assumes nothing.
use Rattle.search_pairs.proofs.Turning.{space-at, laid-at}
use Rattle.search_pairs.proofs.Closed.tried.Goals as goal

pub take_back-requires : goal.take_back-requires
take_back-requires c =
    record { space = space-at _ _ _ _ c.row_count.ensures c.follow-r.ensures.space; labelled = laid-at _ _ _ _ c.row_count.ensures c.follow-r.ensures.laid }
