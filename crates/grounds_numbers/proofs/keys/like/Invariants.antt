-- `grounds_numbers::keys::like` meets its contract. The invariant: no entry passed has the key.
-- Assumes nothing.
use Rattle.grounds_numbers.proofs.Keying.{Seeking}
use Rattle.grounds_numbers.proofs.keys.like.Given as goal

abbrev pub invariant-loop-j : goal.invariant-loop-j
invariant-loop-j l = Seeking l.keys l.e l.j
