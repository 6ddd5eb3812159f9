-- `classes::table::sum` meets its contract. The invariant: s is the sum of the first representatives.
-- Assumes nothing.
use lib.ListN.{length}
use Rattle.classes.proofs.Tables.{Summing}
use Rattle.classes.proofs.table.sum.Given as goal

abbrev pub invariant-loop-place : goal.invariant-loop-place
invariant-loop-place l = Summing (length l.table) l.table l.s l.place-index
