-- `further::orderly::orderly` meets its contract. The invariant: the first places are so.
-- Assumes nothing.
use Rattle.columns.specs.Fit.{Every}
use Rattle.further.specs.Claims.{OrderlyAt}
use Rattle.further.proofs.orderly.orderly.Given as goal

abbrev pub invariant-loop-i : goal.invariant-loop-i
invariant-loop-i l = Every l.i (OrderlyAt l.rows l.table)
