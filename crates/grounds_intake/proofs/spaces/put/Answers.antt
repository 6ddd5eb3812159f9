-- `spaces::put` meets its contract. Past the space nothing is stored.
-- Assumes nothing.
use Rattle.grounds_intake.proofs.Ways.{mine}
use Rattle.grounds_intake.proofs.spaces.put.Goals as goal

pub returns-then-at-space : goal.returns-then-at-space
returns-then-at-space c = search mine

pub returns-else-at-space : goal.returns-else-at-space
returns-else-at-space c = search mine
