-- `search::hunt::begins` meets its contract.
-- Assumes nothing.
use Prim.Native.Nat.{◌≤◌}
use mathlib.Core.Path.{◌≡◌}
use Rattle.search.proofs.Hunting.{Tight}
use Rattle.search.proofs.hunt.begins.Given as goal

abbrev pub invariant-loop-j : goal.invariant-loop-j
invariant-loop-j l = (l.j ≤ l.n) × (l.n ≡ l.k) × Tight l.from l.chosen l.j
