use Rattle.normaliser.proofs.Pairs.{mine}
use Rattle.normaliser.proofs.normal.put_keys.Goals as goal

pub put_key-to-requires : goal.put_key-to-requires
put_key-to-requires c = search mine

pub loop-key-preserved : goal.loop-key-preserved
loop-key-preserved c = search mine

pub returns : goal.returns
returns c = search mine
