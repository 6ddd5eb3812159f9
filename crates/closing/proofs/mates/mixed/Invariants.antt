-- `closing::mates::mixed` meets its contract. The invariant: the first k arguments are mixed in. The measure is what is left of the arguments.
-- Assumes nothing.
use Rattle.closing.proofs.Rows.{Mixing}
use Rattle.closing.proofs.mates.mixed.Given as goal

abbrev pub invariant-loop-k : goal.invariant-loop-k
invariant-loop-k l = Mixing l.args l.table l.i l.count l.s l.key l.k
