-- `search_sets::parting::Differences::gather_apart` meets its contract. The invariant: the classes below the bound are gathered.
-- Assumes nothing.
use Prim.Native.Nat.{◌-◌}
use Rattle.search_sets.specs.Parting.{Parted}
use Rattle.search_sets.proofs.parting.Differences.gather_apart.Given as goal

abbrev pub invariant-loop-k : goal.invariant-loop-k
invariant-loop-k l = Parted l.sets l.self.apart.now l.initial.scratch l.scratch l.base l.self.width l.from

abbrev pub decreases-loop-k : goal.decreases-loop-k
decreases-loop-k l = l.self.n - l.from
