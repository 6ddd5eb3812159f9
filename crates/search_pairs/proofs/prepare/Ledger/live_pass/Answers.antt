use Rattle.search_pairs.proofs.Living.{mine}
use Rattle.search_pairs.proofs.prepare.Ledger.live_pass.Goals as goal

pub loop-r-preserved : goal.loop-r-preserved
loop-r-preserved c = search mine
