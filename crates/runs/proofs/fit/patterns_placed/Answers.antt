use Rattle.runs.proofs.Deciding.{mine}
use Rattle.runs.proofs.fit.patterns_placed.Goals as goal

pub loop-i-preserved : goal.loop-i-preserved
loop-i-preserved c = search mine
