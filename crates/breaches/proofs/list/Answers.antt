-- `breaches::list` meets its contract: a piece more was handed over, or the list is done.
-- Assumes nothing.
use Rattle.breaches.proofs.Going.{listed_next, listed-done, turn-less, mine}
use Rattle.breaches.proofs.list.Goals as goal

pub loop-l-init : goal.loop-l-init
loop-l-init g c = search mine

pub loop-l-smaller : goal.loop-l-smaller
loop-l-smaller g c = turn-less _ _ _ _ _ _ _ c.is_done.ensures c.loop-l-test.true c.in_ok-given.ensures.gives

pub loop-l-preserved : goal.loop-l-preserved
loop-l-preserved g c =
    (c.in_ok-given.ensures.lent, listed_next _ _ _ _ _ _ _ _ _ c.loop-l.invariant.1 c.in_ok-given.ensures.gives c.and-taken.ensures.both)

pub returns : goal.returns
returns g c = listed-done _ _ _ _ _ _ _ c.loop-l.invariant.1 c.is_done.ensures c.loop-l-test.false
