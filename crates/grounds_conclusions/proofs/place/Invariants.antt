-- `grounds_conclusions::place` meets its contract. The invariant: the first i differences have two labels.
-- Assumes nothing.
use Rattle.grounds_conclusions.proofs.Sayings.{Placing}
use Rattle.grounds_conclusions.proofs.place.Given as goal

abbrev pub invariant-loop-i : goal.invariant-loop-i
invariant-loop-i l = Placing l.table l.pairs l.i
