-- `search_pairs::Closed::follow` meets its contract. The invariant is `Going`; what is left falls with each turn.
-- Assumes nothing.
use Rattle.runs.specs.Runs.{row_count}
use Rattle.search_pairs.specs.Steps.{remaining}
use Rattle.search_pairs.proofs.Turning.{Going}
use Rattle.search_pairs.proofs.Closed.follow.Given as goal

abbrev pub invariant-loop-r : goal.invariant-loop-r
invariant-loop-r l = Going l.self.rows.now l.self.table.now l.self.sets.now l.x l.y l.n l.labels l.work

abbrev pub decreases-loop-r : goal.decreases-loop-r
decreases-loop-r l = remaining (row_count l.self.rows.now) l.labels l.work
