-- `closing::table::own` meets its contract. The invariant: the first i places hold their own numbers. The measure is what is left of the places.
-- Assumes nothing.
use Rattle.closing.proofs.Tables.{Filling}
use Rattle.closing.proofs.table.own.Given as goal

abbrev pub invariant-loop-i : goal.invariant-loop-i
invariant-loop-i l = Filling l.place-items l.i
