-- `grounds_conclusions::say_same` meets its contract. The difference is found, its sides are read, and one step says that they are equal.
-- Assumes nothing.
use Rattle.grounds_conclusions.proofs.Sayings.{saying}
use Rattle.grounds_conclusions.proofs.say_same.Goals as goal

pub overflow_add-result : goal.overflow_add-result
overflow_add-result c = search saying

pub overflow_cast-result : goal.overflow_cast-result
overflow_cast-result c = search saying

pub returns : goal.returns
returns c = search saying
