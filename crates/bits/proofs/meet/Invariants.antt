-- `bits::meet` meets its contract.
-- Assumes nothing.
use Prim.Native.Nat.{◌≤◌}
use Rattle.bits.specs.Sets.{Met}
use Rattle.bits.proofs.meet.Given as goal

abbrev pub invariant-loop-i : goal.invariant-loop-i
invariant-loop-i l = (l.i ≤ l.n) × Met l.initial.words l.words l.a l.b l.i
