-- `classes::mates::same_args` meets its contract. The invariant: the first k arguments have the same representatives.
-- Assumes nothing.
use Rattle.classes.proofs.Rows.{Agreeing}
use Rattle.classes.proofs.mates.same_args.Given as goal

abbrev pub invariant-loop-k : goal.invariant-loop-k
invariant-loop-k l = Agreeing l.rows l.table l.i l.j l.count l.k
