-- `plan::level::variables` meets its contract.
-- Assumes nothing.
use Prim.Native.Nat.{◌≤◌}
use mathlib.Core.Path.{◌≡◌}
use Rattle.meaning.specs.Rules.{variables}
use Rattle.meaning.specs.Columns.{patterns_from}
use Rattle.plan.proofs.level.variables.Given as goal

abbrev pub invariant-loop-i : goal.invariant-loop-i
invariant-loop-i l = (l.i ≤ l.patterns.rows) × (l.most ≡ variables (patterns_from l.patterns.kinds.now l.patterns.heads.now l.patterns.counts.now l.patterns.args.now l.i))
