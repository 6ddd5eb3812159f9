-- `Noted::none` meets its contract, as it stands.
-- Assumes nothing.
use mathlib.Core.Path.{refl}
use Rattle.grounds_intake.specs.Machine.{no_conclusions}
use Rattle.grounds_intake.proofs.Noted.none.Goals as goal

pub returns : goal.returns
unfolding no_conclusions
returns c = refl
