-- `search_values::Ledger::held` meets its contract. The invariant: no row whose key stands before place p is the one, and from p on no key is below those of the symbol.
-- Assumes nothing.
use Rattle.meaning.specs.Equality.{rep_at}
use Rattle.search_values.proofs.Holding.{Seeking}
use Rattle.search_values.proofs.Ledger.held.Given as goal

abbrev pub invariant-loop-p : goal.invariant-loop-p
invariant-loop-p l = Seeking l.self.rows.now (rep_at l.self.table.now) l.symbol l.wanted l.self.keys.now l.p
