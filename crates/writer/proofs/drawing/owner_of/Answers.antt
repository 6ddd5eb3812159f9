-- `writer::drawing::owner_of` meets its contract. By the literal's kind.
-- Assumes nothing.
use Rattle.writer.proofs.Starting.{mine}
use Rattle.writer.proofs.drawing.owner_of.Goals as goal

pub returns-then-kind-eq-EQUAL : goal.returns-then-kind-eq-EQUAL
returns-then-kind-eq-EQUAL c = search mine

pub returns-else-kind-eq-EQUAL : goal.returns-else-kind-eq-EQUAL
returns-else-kind-eq-EQUAL c = search mine
