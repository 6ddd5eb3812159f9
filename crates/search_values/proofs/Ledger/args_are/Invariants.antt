-- `search_values::Ledger::args_are` meets its contract. The invariant: the classes of the first k arguments are the wanted ones.
-- Assumes nothing.
use Rattle.search_values.proofs.Comparing.{Matching}
use Rattle.search_values.proofs.Ledger.args_are.Given as goal

abbrev pub invariant-loop-k : goal.invariant-loop-k
invariant-loop-k l = Matching l.self.rows.now l.self.table.now l.i l.wanted l.k
