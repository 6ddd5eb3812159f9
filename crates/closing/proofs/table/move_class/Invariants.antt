-- `closing::table::move_class` meets its contract. The invariant: the first r places are moved. The measure is what is left of the places.
-- Assumes nothing.
use Rattle.closing.proofs.Tables.{Moving}
use Rattle.closing.proofs.table.move_class.Given as goal

abbrev pub invariant-loop-place : goal.invariant-loop-place
invariant-loop-place l = Moving l.lo l.hi 255 l.initial.table l.table l.place-index
