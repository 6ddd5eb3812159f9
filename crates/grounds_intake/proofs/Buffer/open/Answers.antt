-- `Buffer::open` meets its contract, as it stands.
-- Assumes nothing.
use mathlib.Core.Path.{refl}
use Rattle.grounds_intake.specs.Machine.{open_line}
use Rattle.grounds_intake.proofs.Buffer.open.Goals as goal

pub returns : goal.returns
unfolding open_line
returns c = refl
