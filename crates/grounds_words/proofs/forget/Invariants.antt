-- `grounds_words::forget` meets its contract. The invariant: the numbers of steps before i are forgotten, as far as they are not shared. The measure is what is left of the places.
-- Assumes nothing.
use Rattle.grounds_words.proofs.Emitting.{Clearing}
use Rattle.grounds_words.proofs.forget.Given as goal

abbrev pub invariant-loop-i : goal.invariant-loop-i
invariant-loop-i l = Clearing l.from l.initial.news l.n l.news l.i
