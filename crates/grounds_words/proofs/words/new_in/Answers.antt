-- `grounds_words::words::new_in` meets its contract. The kind cites no step, or does.
-- Assumes nothing.
use Rattle.grounds_words.proofs.Wording.{mine}
use Rattle.grounds_words.proofs.words.new_in.Goals as goal

pub returns-then-kind-le2 : goal.returns-then-kind-le2
returns-then-kind-le2 c = search mine

pub returns-else-kind-le2 : goal.returns-else-kind-le2
returns-else-kind-le2 c = search mine
