-- `search_values::Reading::arg_values` meets its contract. The invariant: the values of the first k arguments stand in the run.
-- Assumes nothing.
use Rattle.search_values.proofs.Walking.{Listing}
use Rattle.search_values.proofs.Reading.arg_values.Given as goal

abbrev pub invariant-loop-k : goal.invariant-loop-k
invariant-loop-k l = Listing l.self.patterns.now l.values l.row l.n l.args l.k
