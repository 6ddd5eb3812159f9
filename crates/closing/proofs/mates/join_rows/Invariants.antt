-- `closing::mates::join_rows` meets its contract. The invariant: the first i rows are done and stand on their chains. The measure is what is left of the rows.
-- Assumes nothing.
use Rattle.closing.proofs.Chains.{Passing}
use Rattle.closing.proofs.mates.join_rows.Given as goal

abbrev pub invariant-loop-i : goal.invariant-loop-i
invariant-loop-i l = Passing l.terms.symbols.now l.terms.counts.now l.terms.args.now l.terms.rows l.initial.table l.table l.heads l.next l.i
