-- `closing::settle` meets its contract. The invariant: what holds of the table from the start to the end, the sides of each equation have one representative, and `old` is the sum, which
-- is also the measure.
-- Assumes nothing.
use Rattle.closing.proofs.Rounds.{Rounding}
use Rattle.closing.proofs.settle.Given as goal

abbrev pub invariant-loop-old : goal.invariant-loop-old
invariant-loop-old l = Rounding l.context.terms.symbols.now l.context.terms.counts.now l.context.terms.args.now l.context.terms.rows l.context.statements.kinds.now l.context.statements.lefts.now l.context.statements.rights.now l.context.statements.count l.table l.old

abbrev pub decreases-loop-old : goal.decreases-loop-old
decreases-loop-old l = l.old
