-- `closing::table::sum` meets its contract. The invariant: s is the sum of the first r representatives, each below 65,536. The measure is what is left of the rows.
-- Assumes nothing.
use Rattle.closing.proofs.Tables.{Summing}
use Rattle.closing.proofs.table.sum.Given as goal

abbrev pub invariant-loop-r : goal.invariant-loop-r
invariant-loop-r l = Summing l.rows l.table l.s l.r
