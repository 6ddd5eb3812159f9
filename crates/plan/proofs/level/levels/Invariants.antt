-- `plan::level::levels` meets its contract.
-- Assumes nothing.
use Prim.Native.Nat.{◌≤◌}
use Rattle.meaning.specs.Columns.{patterns_from}
use Rattle.meaning.specs.Values.{levels as levels_of}
use Rattle.plan.specs.Planning.{Levelled}
use Rattle.plan.proofs.level.levels.Given as goal

abbrev pub invariant-loop-i : goal.invariant-loop-i
invariant-loop-i l = (l.i ≤ l.patterns.rows) × Levelled (levels_of (patterns_from l.patterns.kinds.now l.patterns.heads.now l.patterns.counts.now l.patterns.args.now l.i)) l.levels
