-- `runs::fit::placed` meets its contract. The invariant: the first k arguments are earlier. The measure is how many are left.
-- Assumes nothing.
use Rattle.runs.specs.Fit.{Every, Earlier}
use Rattle.runs.proofs.fit.placed.Given as goal

abbrev pub invariant-loop-k : goal.invariant-loop-k
invariant-loop-k l = Every l.k (Earlier l.run l.at l.i)
