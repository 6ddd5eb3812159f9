use Rattle.search_pairs.proofs.Joining.{joins}
use Rattle.search_pairs.proofs.labels.Sets.weight.Goals as goal

pub overflow_add-sum : goal.overflow_add-sum
overflow_add-sum c = search joins

pub loop-i-preserved : goal.loop-i-preserved
loop-i-preserved c = search joins
