-- `grounds::list` meets its contract. The invariant: what was handed over so far and the lines from an item on are all. Each piece ends at a later line.
-- Assumes nothing.
use Prim.Native.Nat.{◌-◌}
use Rattle.grounds.proofs.Handing.{Listed}
use Rattle.grounds.proofs.list.Given as goal

abbrev pub invariant-loop-at : goal.invariant-loop-at
invariant-loop-at g l = Listed l.steps l.o.steps l.o.conclusions l.o.literals l.at l.taken

abbrev pub decreases-loop-at : goal.decreases-loop-at
decreases-loop-at g l = l.end - l.at
