-- `closing::mates::same_args` meets its contract. The invariant: but for the last `left`, the arguments have the same representatives. The measure is `left`.
-- Assumes nothing.
use Rattle.closing.proofs.Rows.{Agreeing}
use Rattle.closing.proofs.mates.same_args.Given as goal

abbrev pub invariant-loop-k : goal.invariant-loop-k
invariant-loop-k l = Agreeing l.args l.table l.i l.j l.count l.k
