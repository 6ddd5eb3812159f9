-- `plan::mark::marks` meets its contract.
-- Assumes nothing.
use Prim.Native.Nat.{◌≤◌}
use Rattle.meaning.specs.Columns.{patterns_from}
use Rattle.meaning.specs.Pruning.{touches}
use Rattle.plan.specs.Marks.{Marked}
use Rattle.plan.proofs.mark.marks.Given as goal

abbrev pub invariant-loop-i : goal.invariant-loop-i
invariant-loop-i l = (l.i ≤ l.patterns.rows) × Marked (touches l.v (patterns_from l.patterns.kinds.now l.patterns.heads.now l.patterns.counts.now l.patterns.args.now l.i)) l.marks
