-- `refused` meets its contract: what is told of a refused text, as it stands.
-- Assumes nothing.
use mathlib.Core.Path.{refl}
use Rattle.text_reader.specs.Lines.{told_refused}
use Rattle.text_reader.proofs.refused.Goals as goal

pub returns : goal.returns
unfolding told_refused
returns c = refl
