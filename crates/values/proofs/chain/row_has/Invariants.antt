-- `values::chain::row_has` meets its contract.
-- Assumes nothing.
use Prim.Native.Nat.{◌≤◌}
use mathlib.Core.Path.{◌≡◌}
use mathlib.Core.List.{map}
use lib.ListN.{get_or, take}
use Rattle.meaning.specs.Equality.{rep_at}
use Rattle.meaning.specs.Columns.{args_at}
use Rattle.values.proofs.Comparing.{Comparing}
use Rattle.values.proofs.chain.row_has.Given as goal

abbrev pub invariant-loop-k : goal.invariant-loop-k
invariant-loop-k l = (l.k ≤ l.count) × (l.count ≡ get_or l.ledger.terms.counts.now l.i 0) × (get_or l.ledger.terms.symbols.now l.i 0 ≡ l.symbol) × Comparing (take l.count l.wanted) (map (rep_at l.ledger.table.now) (args_at l.ledger.terms.counts.now l.ledger.terms.args.now l.i)) l.k
