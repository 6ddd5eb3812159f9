use Rattle.columns.proofs.Deciding.{decides_not, every_more, every-fails}
use Rattle.columns.proofs.patterns_placed.Goals as goal

pub returns-then-not-pattern_placed : goal.returns-then-not-pattern_placed
returns-then-not-pattern_placed c = every-fails c.loop-i-test.true (decides_not c.pattern_placed.ensures c.if-not-pattern_placed.true)

pub loop-i-preserved : goal.loop-i-preserved
loop-i-preserved c = every_more c.loop-i.invariant (c.pattern_placed.ensures.holds c.if-not-pattern_placed.false)
