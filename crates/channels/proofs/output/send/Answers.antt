use Rattle.std.proofs.Common.{rules}
use Rattle.channels.proofs.Moving.{write-more, write-none, moved-few, moved-all}
use Rattle.channels.proofs.output.send.Goals as goal
use Rattle.channels.proofs.output.send.Goals.{in-Ok, in-Err+else-not-is_interrupted}

pub overflow_add-done : goal.overflow_add-done
overflow_add-done g c = search (rules, moved-few _ _ _ _ _ c.in-Ok.n c.in-Ok.ensures.bound c.loop.invariant)

pub returns-then-is_empty-clause-counted : goal.returns-then-is_empty-clause-counted
returns-then-is_empty-clause-counted g c = moved-all _ _ _ _ _ (search rules) c.loop.invariant

pub loop-preserved : goal.loop-preserved
loop-preserved g c =
    elim c.match-write.branch [
      | in-Ok w ↦ rw w.rest-is (rw w.done-is (write-more _ _ _ _ _ _ w.in-Ok.n (search rules) c.loop.invariant w.in-Ok.ensures.bytes))
      | in-Err+else-not-is_interrupted w ↦ rw w.rest-is (rw w.done-is (write-none _ _ _ _ _ _ c.loop.invariant w.in-Err.ensures.bytes))
    ]
