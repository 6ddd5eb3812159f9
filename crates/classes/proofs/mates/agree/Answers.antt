-- `classes::mates::agree` meets its contract. The ways are two shapes, and the arguments compared.
-- Assumes nothing.
use Rattle.classes.proofs.Rows.{mine}
use Rattle.classes.proofs.mates.agree.Goals as goal

pub returns-then-same_shape : goal.returns-then-same_shape
returns-then-same_shape c = search mine

pub returns-else-same_shape : goal.returns-else-same_shape
returns-else-same_shape c = search mine
