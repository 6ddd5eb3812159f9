-- `runs::fit::named` meets its contract. The invariant: the first k statements name rows below the limit. The measure is how many are left.
-- Assumes nothing.
use Rattle.runs.specs.Runs.{said_count}
use Rattle.runs.specs.Fit.{NamedAt}
use Rattle.runs.proofs.Deciding.{Checked}
use Rattle.runs.proofs.fit.named.Given as goal

abbrev pub invariant-loop-k : goal.invariant-loop-k
invariant-loop-k l = Checked (NamedAt l.said l.limit) (said_count l.said) l.n l.k
