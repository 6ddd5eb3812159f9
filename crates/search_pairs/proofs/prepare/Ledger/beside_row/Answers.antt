use Rattle.search_pairs.proofs.Preparing.{mine}
use Rattle.search_pairs.proofs.prepare.Ledger.beside_row.Goals as goal

pub loop-s-preserved : goal.loop-s-preserved
loop-s-preserved c = search mine

pub returns-2 : goal.returns-2
returns-2 c = search mine
