-- `grounds_conclusions::say` meets its contract. The kind decides.
-- Assumes nothing.
use Rattle.grounds_conclusions.proofs.Sayings.{saying}
use Rattle.grounds_conclusions.proofs.say.Goals as goal

pub returns-then-kind-eq-EQUAL : goal.returns-then-kind-eq-EQUAL
returns-then-kind-eq-EQUAL c = search saying

pub returns-else-kind-eq-EQUAL : goal.returns-else-kind-eq-EQUAL
returns-else-kind-eq-EQUAL c = search saying
