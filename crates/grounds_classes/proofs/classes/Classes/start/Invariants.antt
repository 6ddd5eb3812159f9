-- `grounds_classes::classes::Classes::start` meets its contract. The invariant: the first x entries have their steps.
-- Assumes nothing.
use Rattle.grounds_laws.specs.Rounds.{start_one}
use Rattle.grounds_classes.proofs.Classing.{Through}
use Rattle.grounds_classes.proofs.classes.Classes.start.Given as goal

abbrev pub invariant-loop-x : goal.invariant-loop-x
invariant-loop-x l = Through (start_one l.numbers) l.n l.initial.self l.self l.x
