use Rattle.grounds_numbers.proofs.Pairing.{mine}
use Rattle.grounds_numbers.proofs.pairs.stated.Goals as goal

pub loop-s-init : goal.loop-s-init
loop-s-init c = search mine

pub loop-s-preserved : goal.loop-s-preserved
loop-s-preserved c = search mine

pub returns : goal.returns
returns c = search mine
