-- `runs::fit::patterns_placed` meets its contract. The invariant: the first i pattern rows are well-formed. The measure is how many are left.
-- Assumes nothing.
use Rattle.runs.specs.Runs.{pattern_count}
use Rattle.runs.specs.Fit.{PatternAt}
use Rattle.runs.proofs.Deciding.{Checked}
use Rattle.runs.proofs.fit.patterns_placed.Given as goal

abbrev pub invariant-loop-i : goal.invariant-loop-i
invariant-loop-i l = Checked (PatternAt l.patterns) (pattern_count l.patterns) l.n l.i
