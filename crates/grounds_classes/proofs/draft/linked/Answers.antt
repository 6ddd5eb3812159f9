-- `grounds_classes::draft::linked` meets its contract. Two of the entries are one, or a transitive step.
-- Assumes nothing.
use Rattle.grounds_classes.proofs.Drafting.{mine}
use Rattle.grounds_classes.proofs.draft.linked.Goals as goal

pub returns-then-first : goal.returns-then-first
returns-then-first c = search mine

pub returns-then-first-second : goal.returns-then-first-second
returns-then-first-second c = search mine

pub returns : goal.returns
returns c = search mine
