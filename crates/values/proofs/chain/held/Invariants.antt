-- `values::chain::held` meets its contract.
-- Assumes nothing.
use Prim.Native.Nat.{◌-◌}
use lib.ListN.{take}
use Rattle.meaning.specs.Equality.{rep_at}
use Rattle.values.proofs.Chaining.{Seeking}
use Rattle.values.proofs.chain.held.Given as goal

abbrev pub invariant-loop-i : goal.invariant-loop-i
invariant-loop-i l = Seeking l.terms.symbols.now l.terms.counts.now l.terms.args.now l.terms.rows (rep_at l.table) l.symbol (take l.count l.wanted) l.i

abbrev pub decreases-loop-i : goal.decreases-loop-i
decreases-loop-i l = l.terms.rows - l.i
