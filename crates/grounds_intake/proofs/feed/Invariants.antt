-- `feed` meets its contract. The invariant: the memory is what the bytes so far make of it.
-- Assumes nothing.
use Rattle.grounds_intake.specs.Machine.{memory}
use Rattle.grounds_intake.proofs.Ways.{Feeding}
use Rattle.grounds_intake.proofs.feed.Given as goal

abbrev pub invariant-loop-b : goal.invariant-loop-b
invariant-loop-b l = Feeding (memory l.initial.q l.initial.text l.initial.steps) l.piece l.b-index l.q l.text l.steps
