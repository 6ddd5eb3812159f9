use Rattle.classes.proofs.Rounds.{mine}
use Rattle.classes.proofs.settle.Goals as goal

pub pass-old-requires-clause-table_len_bound : goal.pass-old-requires-clause-table_len_bound
pass-old-requires-clause-table_len_bound c = search mine

pub returns-then-old-start : goal.returns-then-old-start
returns-then-old-start c = search mine

pub round-fresh-requires-clause-table_len_bound : goal.round-fresh-requires-clause-table_len_bound
round-fresh-requires-clause-table_len_bound c = search mine

pub returns-then-fresh-old : goal.returns-then-fresh-old
returns-then-fresh-old c = search mine
