use Rattle.grounds_numbers.proofs.Keying.{mine}
use Rattle.grounds_numbers.proofs.keys.places_of.Goals as goal

pub loop-k-preserved : goal.loop-k-preserved
loop-k-preserved c = search mine

pub returns : goal.returns
returns c = search mine
