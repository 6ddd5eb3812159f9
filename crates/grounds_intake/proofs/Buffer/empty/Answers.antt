-- `Buffer::empty` meets its contract, as it stands.
-- Assumes nothing.
use mathlib.Core.Path.{refl}
use Rattle.grounds_intake.specs.Machine.{empty_line}
use Rattle.grounds_intake.proofs.Buffer.empty.Goals as goal

pub returns : goal.returns
unfolding empty_line
returns c = refl
