-- `search_pairs::prepare::Ledger::spread` meets its contract. The invariant: numbers were only put. A pass that added something leaves fewer classes that are not live; one that added nothing is the last.
-- Assumes nothing.
use Prim.Native.Nat.{◌-◌}
use Rattle.bits.specs.Sets.{size}
use Rattle.search_pairs.specs.Ready.{live_at}
use Rattle.search_pairs.specs.Prepare.{More}
use Rattle.search_pairs.proofs.prepare.Ledger.spread.Given as goal

abbrev pub invariant-loop : goal.invariant-loop
invariant-loop l = More l.self.n l.initial.sets l.sets

abbrev pub decreases-loop : goal.decreases-loop
decreases-loop l = l.self.n - size l.self.n (live_at l.self.n l.sets)
