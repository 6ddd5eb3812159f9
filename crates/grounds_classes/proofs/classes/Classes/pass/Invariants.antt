-- `grounds_classes::classes::Classes::pass` meets its contract. The invariant: the first x entries are done.
-- Assumes nothing.
use Rattle.grounds_classes.specs.Settling.{row_passed_by}
use Rattle.grounds_classes.proofs.Classing.{Through}
use Rattle.grounds_classes.proofs.classes.Classes.pass.Given as goal

abbrev pub invariant-loop-x : goal.invariant-loop-x
invariant-loop-x l = Through (row_passed_by l.entries.keys.now) l.n l.initial.self l.self l.x
