-- `columns::rows_placed` meets its contract.
-- Assumes nothing.
use Rattle.columns.specs.Fit.{Every, PlacedAt}
use Rattle.columns.proofs.rows_placed.Given as goal

abbrev pub invariant-loop-i : goal.invariant-loop-i
invariant-loop-i l = Every l.i (PlacedAt l.counts l.args)
