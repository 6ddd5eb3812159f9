-- `search::hunt::enter` and `search::hunt::seek` meet their contracts. They call each other. The measure is twice the number of variables that are left to choose, and for
-- `enter` one more. The invariant: what was tried so far is no breach, and what is known of pairs is right.
-- Assumes nothing.
use Prim.Native.Nat.{◌+◌, ◌-◌, ◌*◌, ◌<◌}
use Rattle.meaning.specs.Equality.{rep_at}
use Rattle.columns.specs.Lent.{context_in}
use Rattle.differing.specs.Knowing.{Knows}
use Rattle.search.specs.Hunting.{attempt_of, hunt_of}
use Rattle.search.specs.Lent.{stage_in, dead_in, rows_for, hunt_in}
use Rattle.search.proofs.Hunting.{Trying}
use Rattle.search.proofs.hunt.+enter_seek.Given as goal

abbrev pub decreases-enter : goal.decreases-enter
decreases-enter l = (l.hunt.now.variables - l.k) * 2 + 1

abbrev pub decreases-seek : goal.decreases-seek
decreases-seek l = (l.hunt.now.variables - l.k) * 2

abbrev pub invariant-seek-loop-i : goal.invariant-seek-loop-i
invariant-seek-loop-i l =
    (l.k < l.hunt.variables)
    × Knows (context_in l.hunt.classed.context) l.known
    × Trying (rep_at l.table) l.rows
    (attempt_of (stage_in l.hunt) (dead_in l.hunt) (hunt_of (stage_in l.hunt) (dead_in l.hunt) (rows_for l.hunt) (l.hunt.variables - (l.k + 1)) (l.k + 1)) l.k l.chosen l.values) l.alone
    (hunt_in l.hunt l.k l.chosen l.values) l.i
