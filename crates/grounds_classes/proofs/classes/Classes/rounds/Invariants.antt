-- `grounds_classes::classes::Classes::rounds` meets its contract. The invariant: as many passes as are left lead to the same end.
-- Assumes nothing.
use Rattle.grounds_classes.proofs.Rounding.{Rounding}
use Rattle.grounds_classes.proofs.classes.Classes.rounds.Given as goal

abbrev pub invariant-loop : goal.invariant-loop
invariant-loop l = Rounding l.entries.keys.now l.initial.self l.self l.counter
