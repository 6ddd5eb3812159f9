-- `keys::note` meets its contract, in both cases.
-- Assumes nothing.
use Rattle.normaliser.proofs.Gathering.{mine}
use Rattle.normaliser.proofs.keys.note.Goals as goal

pub returns-then-equation : goal.returns-then-equation
returns-then-equation c = search mine

pub returns-else-equation : goal.returns-else-equation
returns-else-equation c = search mine
