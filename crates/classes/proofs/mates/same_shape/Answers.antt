-- `classes::mates::same_shape` meets its contract. The ways are two symbols, and the counts compared.
-- Assumes nothing.
use Rattle.classes.proofs.Rows.{mine}
use Rattle.classes.proofs.mates.same_shape.Goals as goal

pub returns-then-symbol_in : goal.returns-then-symbol_in
returns-then-symbol_in c = search mine

pub returns-else-symbol_in : goal.returns-else-symbol_in
returns-else-symbol_in c = search mine
