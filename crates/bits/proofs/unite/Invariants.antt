-- `bits::unite` meets its contract. The invariant: the first i words are added.
-- Assumes nothing.
use Prim.Native.Nat.{◌≤◌}
use Rattle.bits.specs.Sets.{United}
use Rattle.bits.proofs.unite.Given as goal

abbrev pub invariant-loop-i : goal.invariant-loop-i
invariant-loop-i l = (l.i ≤ l.n) × United l.initial.words l.others l.words l.a l.b l.i
