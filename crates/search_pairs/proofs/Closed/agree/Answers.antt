-- `search_pairs::Closed::agree` meets its contract. The ways are two symbols, two counts, and the arguments compared.
-- Assumes nothing.
use Rattle.search_pairs.proofs.Rows.{seated-other, mine}
use Rattle.search_pairs.proofs.Closed.agree.Goals as goal

pub same_args-requires : goal.same_args-requires
same_args-requires c = record { seated = search mine; seated_2 = seated-other _ _ _ _ (search mine) (search mine) c.count_in.ensures c.if-count-count_in.false }

pub returns-then-symbol_in : goal.returns-then-symbol_in
returns-then-symbol_in c = search mine

pub returns-then-count-count_in : goal.returns-then-count-count_in
returns-then-count-count_in c = search mine

pub returns : goal.returns
returns c = search mine
