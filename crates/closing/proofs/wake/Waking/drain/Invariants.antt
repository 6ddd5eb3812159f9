-- `wake::Waking::drain` meets its contract: after each row the table is nearer.
-- Assumes nothing.
use Rattle.closing.proofs.Nearing.{Meeting}
use Rattle.closing.proofs.wake.Waking.drain.Given as goal

abbrev pub invariant-loop : goal.invariant-loop
invariant-loop l = Meeting l.terms.symbols.now l.terms.counts.now l.terms.args.now l.terms.rows l.initial.table l.table
