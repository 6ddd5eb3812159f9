-- `classes::mates::mate` meets its contract. The invariant: the rows of the chain that were passed do not agree with row i. The measure is the
-- link: a chain leads to earlier rows.
-- Assumes nothing.
use Rattle.runs.specs.Runs.{rows_of}
use Rattle.classes.specs.Steps.{link_of}
use Rattle.classes.proofs.Chains.{Seeking}
use Rattle.classes.proofs.mates.mate.Given as goal

abbrev pub invariant-loop-at : goal.invariant-loop-at
invariant-loop-at l = Seeking (rows_of l.rows) l.table l.next l.i l.head l.at

abbrev pub decreases-loop-at : goal.decreases-loop-at
decreases-loop-at l = link_of l.at
