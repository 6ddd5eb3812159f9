use Rattle.search_pairs.proofs.Joining.{mine}
use Rattle.search_pairs.proofs.labels.moved.Goals as goal

pub returns-then-from-hi : goal.returns-then-from-hi
returns-then-from-hi c = search mine

pub returns-else-from-hi : goal.returns-else-from-hi
returns-else-from-hi c = search mine
