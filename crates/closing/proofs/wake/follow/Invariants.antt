-- `wake::follow` meets its contract: after each row the table is nearer.
-- Assumes nothing.
use Rattle.closing.proofs.Nearing.{Meeting}
use Rattle.closing.proofs.wake.follow.Given as goal

abbrev pub invariant-loop-i : goal.invariant-loop-i
invariant-loop-i l = Meeting l.terms.symbols.now l.terms.counts.now l.terms.args.now l.terms.rows l.initial.table l.table
