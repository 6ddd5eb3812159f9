-- `values::value::over` meets its contract.
-- Assumes nothing.
use Prim.Native.Nat.{◌≤◌}
use mathlib.Core.Path.{◌≡◌}
use mathlib.Core.List.{map}
use lib.ListN.{get_or, take}
use Rattle.meaning.specs.Values.{number_at}
use Rattle.meaning.specs.Columns.{args_at}
use Rattle.values.proofs.Comparing.{Comparing}
use Rattle.values.proofs.value.over.Given as goal

abbrev pub invariant-loop-k : goal.invariant-loop-k
invariant-loop-k l = (l.k ≤ l.count) × (l.count ≡ get_or l.patterns.counts.now l.q 0) × (get_or l.patterns.heads.now l.q 0 ≡ l.symbol) × (get_or l.patterns.kinds.now l.q 0 ≡ 4 → ⊥) × Comparing (take l.count l.wanted) (map (number_at l.values) (args_at l.patterns.counts.now l.patterns.args.now l.q)) l.k
