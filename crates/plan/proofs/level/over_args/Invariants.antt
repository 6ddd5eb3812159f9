-- `plan::level::over_args` meets its contract.
-- Assumes nothing.
use mathlib.Core.Path.{◌≡◌}
use lib.ListN.{get_or, take}
use Rattle.meaning.specs.Columns.{args_at}
use Rattle.meaning.specs.Values.{highest}
use Rattle.plan.proofs.level.over_args.Given as goal

abbrev pub invariant-loop-k : goal.invariant-loop-k
invariant-loop-k l = (l.n ≡ get_or l.patterns.counts.now l.i 0) × (l.most ≡ highest l.column (take l.k (args_at l.patterns.counts.now l.patterns.args.now l.i)))
