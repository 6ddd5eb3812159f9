-- `grounds_classes::draft::turned` meets its contract. One entry, or a symmetric step.
-- Assumes nothing.
use Rattle.grounds_classes.proofs.Drafting.{mine}
use Rattle.grounds_classes.proofs.draft.turned.Goals as goal

pub returns-then-e : goal.returns-then-e
returns-then-e c = search mine

pub returns : goal.returns
returns c = search mine
