use Rattle.std.proofs.Common.{rules}
use Rattle.channels.proofs.Moving.{read-more, read-none}
use Rattle.channels.proofs.input.fill.Goals as goal
use Rattle.channels.proofs.input.fill.Goals.{in-Ok, in-Err}

pub loop-preserved : goal.loop-preserved
loop-preserved g c =
    elim c.match-read.branch [
      | in-Ok w ↦
          rw w.done-is
          (search rules, search rules, read-more _ _ _ _ _ _ c.loop.invariant.1 _ w.in-Ok.ensures.bound.0 c.loop.invariant.2 w.in-Ok.ensures.bytes.0)
      | in-Err w ↦ rw w.done-is (search rules, search rules, read-none _ _ _ _ _ _ c.loop.invariant.1 c.loop.invariant.2 w.in-Err.ensures.bytes)
    ]
