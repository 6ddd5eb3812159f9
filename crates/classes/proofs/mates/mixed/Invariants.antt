-- `classes::mates::mixed` meets its contract. The invariant: the first k arguments are mixed in.
-- Assumes nothing.
use Rattle.classes.proofs.Rows.{Mixing}
use Rattle.classes.proofs.mates.mixed.Given as goal

abbrev pub invariant-loop-k : goal.invariant-loop-k
invariant-loop-k l = Mixing l.rows l.table l.i l.count l.s l.key l.k
