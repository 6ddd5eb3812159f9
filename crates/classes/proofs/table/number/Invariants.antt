-- `classes::table::number` meets its contract. The invariant: the first i places hold their own numbers.
-- Assumes nothing.
use lib.ListN.{length}
use Rattle.classes.proofs.Tables.{Filling}
use Rattle.classes.proofs.table.number.Given as goal

abbrev pub invariant-loop-i : goal.invariant-loop-i
invariant-loop-i l = Filling (length l.initial.table) l.initial.table l.table l.i
