-- `grounds_numbers::pairs::stated` meets its contract. The invariant: the pairs of the statements passed stand at the start.
-- Assumes nothing.
use Rattle.grounds_numbers.proofs.Pairing.{Pairing}
use Rattle.grounds_numbers.proofs.pairs.stated.Given as goal

abbrev pub invariant-loop-s : goal.invariant-loop-s
invariant-loop-s l = Pairing l.numbers l.said l.equations l.initial.pairs l.pairs l.k l.s
