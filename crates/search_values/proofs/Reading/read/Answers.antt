use Rattle.search_values.proofs.Progress.{mine}
use Rattle.search_values.proofs.Reading.read.Goals as goal

pub loop-j-preserved : goal.loop-j-preserved
loop-j-preserved c = search mine

pub returns : goal.returns
returns c = search mine
