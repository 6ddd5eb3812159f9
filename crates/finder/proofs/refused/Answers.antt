-- `refused` meets its contract: the four places hold 255.
-- Assumes nothing.
use mathlib.Core.Path.{refl}
use Rattle.finder.specs.Claims.{refused_with}
use Rattle.finder.proofs.refused.Goals as goal

pub returns : goal.returns
unfolding refused_with
returns c = record { refuses = refl }
