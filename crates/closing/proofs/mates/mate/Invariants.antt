-- `closing::mates::mate` meets its contract. The invariant: the rows of the chain that were passed do not agree with row i. The measure is `at`, since a chain leads to earlier rows.
-- Assumes nothing.
use Rattle.meaning.specs.Columns.{rows_from}
use Rattle.closing.proofs.Chains.{Seeking}
use Rattle.closing.proofs.mates.mate.Given as goal

abbrev pub invariant-loop-at : goal.invariant-loop-at
invariant-loop-at l = Seeking (rows_from l.terms.symbols.now l.terms.counts.now l.terms.args.now l.terms.rows) l.table l.next l.i l.head l.at

abbrev pub decreases-loop-at : goal.decreases-loop-at
decreases-loop-at l = l.at
