-- `search_values::Reading::args_are` meets its contract. The invariant: the values of the first k arguments are the wanted ones.
-- Assumes nothing.
use Rattle.search_values.proofs.Meeting.{Valuing}
use Rattle.search_values.proofs.Reading.args_are.Given as goal

abbrev pub invariant-loop-k : goal.invariant-loop-k
invariant-loop-k l = Valuing l.self.patterns.now l.values l.q l.wanted l.k
