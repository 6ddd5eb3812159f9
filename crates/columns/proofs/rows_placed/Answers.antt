use Rattle.columns.proofs.Deciding.{decides_not, every_more, every-fails}
use Rattle.columns.proofs.rows_placed.Goals as goal

pub returns-then-not-placed : goal.returns-then-not-placed
returns-then-not-placed c = every-fails c.loop-i-test.true (decides_not c.placed.ensures c.if-not-placed.true)

pub loop-i-preserved : goal.loop-i-preserved
loop-i-preserved c = every_more c.loop-i.invariant (c.placed.ensures.holds c.if-not-placed.false)
