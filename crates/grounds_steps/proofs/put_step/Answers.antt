-- `grounds_steps::put_step` meets its contract. Past the space nothing is stored.
-- Assumes nothing.
use Rattle.grounds_steps.proofs.Storing.{mine}
use Rattle.grounds_steps.proofs.put_step.Goals as goal

pub returns-then-i-steps : goal.returns-then-i-steps
returns-then-i-steps c = search mine

pub returns-else-i-steps : goal.returns-else-i-steps
returns-else-i-steps c = search mine
