-- `values::chain::link` meets its contract.
-- Assumes nothing.
use Prim.Native.Nat.{◌≤◌}
use mathlib.Core.Path.{◌≡◌}
use lib.ListN.{length}
use Rattle.values.specs.Chains.{Linked}
use Rattle.values.proofs.chain.link.Given as goal

abbrev pub invariant-loop-i : goal.invariant-loop-i
invariant-loop-i l = (l.i ≤ l.rows) × (length l.chains.first ≡ 256) × (length l.chains.next ≡ 255) × Linked l.symbols l.rows l.i l.chains.first l.chains.next
