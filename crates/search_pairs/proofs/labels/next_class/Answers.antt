use Rattle.search_pairs.proofs.Members.{class-none, class-told}
use Rattle.search_pairs.proofs.labels.next_class.Goals as goal

pub returns-in_err-k : goal.returns-in_err-k
returns-in_err-k c = rw c.from_residual.ensures (class-none _ _ _ _ _ c.words.ensures c.in_err-k.ensures)

pub returns : goal.returns
returns c = rw c.then_some.ensures (class-told _ _ _ _ _ c.words.ensures _ c.in_ok-k.ensures)
