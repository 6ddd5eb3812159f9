-- `search_pairs::prepare::tell_all` meets its contract. The invariant: the statements before k are told.
-- Assumes nothing.
use Rattle.search_pairs.proofs.Preparing.{Tells}
use Rattle.search_pairs.proofs.prepare.tell_all.Given as goal

abbrev pub invariant-loop-k : goal.invariant-loop-k
invariant-loop-k l = Tells l.n l.said l.table l.m l.k l.sets
