use Rattle.search_values.proofs.Meeting.{meeting-next, mine}
use Rattle.search_values.proofs.Reading.met.Goals as goal

pub loop-j-preserved : goal.loop-j-preserved
loop-j-preserved c = meeting-next _ _ _ _ c.requires _ c.loop-j-test.true _ c.from-q.ensures _ _ _ c.loop-j.invariant _ c.over.ensures c.if-over.false

pub returns-then-over : goal.returns-then-over
returns-then-over c = search mine

pub returns : goal.returns
returns c = search mine
