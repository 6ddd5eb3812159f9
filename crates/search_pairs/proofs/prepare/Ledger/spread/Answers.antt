use Rattle.search_pairs.proofs.Living.{mine}
use Rattle.search_pairs.proofs.prepare.Ledger.spread.Goals as goal

pub loop-smaller : goal.loop-smaller
loop-smaller c = search mine
