use Rattle.further.proofs.Turns.{mine}
use Rattle.further.proofs.passes.turns.Goals as goal

pub returns-then-fresh-old : goal.returns-then-fresh-old
returns-then-fresh-old c = search mine

pub loop-old-smaller : goal.loop-old-smaller
loop-old-smaller c = search mine

pub loop-old-preserved : goal.loop-old-preserved
loop-old-preserved c = search mine
