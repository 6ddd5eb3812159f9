-- `search_values::Reading::met` meets its contract. The invariant: none of the rows before place j of the order is the one.
-- Assumes nothing.
use Rattle.runs.specs.Runs.{patterns_of}
use Rattle.search_values.proofs.Meeting.{Meeting}
use Rattle.search_values.proofs.Reading.met.Given as goal

abbrev pub invariant-loop-j : goal.invariant-loop-j
invariant-loop-j l = Meeting (patterns_of l.self.patterns.now) l.symbol l.wanted l.values l.self.order.now l.read l.j
