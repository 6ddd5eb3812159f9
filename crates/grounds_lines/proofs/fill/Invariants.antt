-- `grounds_lines::fill` meets its contract. The invariant: so many lines are written, and as many more will be as have room.
-- Assumes nothing.
use Rattle.grounds_lines.proofs.Filling.{Filling}
use Rattle.grounds_lines.proofs.fill.Given as goal

abbrev pub invariant-loop-at : goal.invariant-loop-at
invariant-loop-at l = Filling l.steps l.n l.d l.from l.end l.initial.space l.used l.at l.space
