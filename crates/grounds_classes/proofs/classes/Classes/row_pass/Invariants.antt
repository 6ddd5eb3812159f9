-- `grounds_classes::classes::Classes::row_pass` meets its contract. The invariant: the first y entries are done.
-- Assumes nothing.
use Rattle.grounds_classes.specs.Settling.{paired_by}
use Rattle.grounds_classes.proofs.Classing.{Through}
use Rattle.grounds_classes.proofs.classes.Classes.row_pass.Given as goal

abbrev pub invariant-loop-y : goal.invariant-loop-y
invariant-loop-y l = Through (paired_by l.entries.keys.now l.x) l.x l.initial.self l.self l.y
