-- `grounds_numbers::keys::places_of` meets its contract. The invariant: the places of the arguments passed have their numbers.
-- Assumes nothing.
use Rattle.grounds_numbers.proofs.Keying.{Placed}
use Rattle.grounds_numbers.proofs.keys.places_of.Given as goal

abbrev pub invariant-loop-k : goal.invariant-loop-k
invariant-loop-k l = Placed l.numbers l.run l.at l.offset l.count l.places l.k
