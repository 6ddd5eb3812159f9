use Rattle.normaliser.proofs.Pairs.{mine}
use Rattle.normaliser.proofs.normal.put_joins.Goals as goal

pub put_join-to-requires : goal.put_join-to-requires
put_join-to-requires c = search mine

pub loop-i-preserved : goal.loop-i-preserved
loop-i-preserved c = search mine

pub returns : goal.returns
returns c = search mine
