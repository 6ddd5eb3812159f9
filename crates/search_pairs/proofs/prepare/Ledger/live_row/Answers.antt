use Rattle.search_pairs.proofs.Living.{mine}
use Rattle.search_pairs.proofs.prepare.Ledger.live_row.Goals as goal

pub returns-else-is_live : goal.returns-else-is_live
returns-else-is_live c = rw c.if-is_live.false (search mine)
