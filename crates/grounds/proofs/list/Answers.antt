-- `grounds::list` meets its contract: a piece more was handed over, or every line was.
-- Assumes nothing.
use Rattle.grounds.proofs.Handing.{listed_next, listed-done, turn-less}
use Rattle.grounds.proofs.list.Goals as goal

pub loop-at-smaller : goal.loop-at-smaller
loop-at-smaller g c = turn-less _ _ _ _ _ _ _ _ c.items-end.ensures.counts c.loop-at-test.true c.in_ok-given.ensures

pub loop-at-preserved : goal.loop-at-preserved
loop-at-preserved g c = listed_next _ _ _ _ _ _ _ _ _ c.loop-at.invariant c.in_ok-given.ensures c.and-taken.ensures.both

pub returns : goal.returns
returns g c = listed-done _ _ _ _ _ _ _ c.loop-at.invariant c.items-end.ensures.counts c.loop-at-test.false
