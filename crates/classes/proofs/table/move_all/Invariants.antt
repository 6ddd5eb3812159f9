-- `classes::table::move_all` meets its contract. The invariant: the first places are moved.
-- Assumes nothing.
use lib.ListN.{length}
use Rattle.classes.proofs.Tables.{Moving}
use Rattle.classes.proofs.table.move_all.Given as goal

abbrev pub invariant-loop-place : goal.invariant-loop-place
invariant-loop-place l = Moving l.lo l.hi (length l.initial.table) l.initial.table l.table l.place-index
