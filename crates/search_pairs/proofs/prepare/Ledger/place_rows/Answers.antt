use Rattle.search_pairs.proofs.Preparing.{mine}
use Rattle.search_pairs.proofs.prepare.Ledger.place_rows.Goals as goal

pub loop-r-preserved : goal.loop-r-preserved
loop-r-preserved c = search mine
