-- `columns::patterns_placed` meets its contract.
-- Assumes nothing.
use Rattle.columns.specs.Fit.{Every, PatternAt}
use Rattle.columns.proofs.patterns_placed.Given as goal

abbrev pub invariant-loop-i : goal.invariant-loop-i
invariant-loop-i l = Every l.i (PatternAt l.kinds l.heads l.counts l.args)
