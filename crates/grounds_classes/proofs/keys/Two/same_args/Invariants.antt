-- `grounds_classes::keys::Two::same_args` meets its contract. The invariant: the first k labels are the same.
-- Assumes nothing.
use Rattle.grounds_classes.proofs.Rounding.{Comparing}
use Rattle.grounds_classes.proofs.keys.Two.same_args.Given as goal

abbrev pub invariant-loop-k : goal.invariant-loop-k
invariant-loop-k l = Comparing l.self.entries.keys.now l.table l.self.x l.self.y l.count l.k
