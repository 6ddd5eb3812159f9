-- `further::passes::turns` meets its contract. The invariant: what held of the table at the start, by whatever equations, holds, and `old` is the sum, which is also the measure.
-- Assumes nothing.
use Rattle.further.proofs.Turns.{Turning}
use Rattle.further.proofs.passes.turns.Given as goal

abbrev pub invariant-loop-old : goal.invariant-loop-old
invariant-loop-old l = Turning l.terms.symbols.now l.terms.counts.now l.terms.args.now l.terms.rows l.initial.table l.table l.old

abbrev pub decreases-loop-old : goal.decreases-loop-old
decreases-loop-old l = l.old
