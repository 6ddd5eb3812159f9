-- `search_pairs::Closed::same_args` meets its contract. The invariant: the first k arguments have the same labels.
-- Assumes nothing.
use Rattle.search_pairs.proofs.Rows.{Agreeing}
use Rattle.search_pairs.proofs.Closed.same_args.Given as goal

abbrev pub invariant-loop-k : goal.invariant-loop-k
invariant-loop-k l = Agreeing l.self.rows.now l.self.table.now l.labels l.i l.j l.count l.k
