-- `columns::placed` meets its contract.
-- Assumes nothing.
use lib.ListN.{get_or}
use Prim.Native.Nat.{◌≤◌}
use mathlib.Core.Path.{◌≡◌}
use Rattle.columns.specs.Fit.{Every, Earlier}
use Rattle.columns.proofs.placed.Given as goal

abbrev pub invariant-loop-k : goal.invariant-loop-k
invariant-loop-k l = (l.n ≡ get_or l.counts l.i 0) × (l.n ≤ 4) × Every l.k (Earlier l.args l.i)
