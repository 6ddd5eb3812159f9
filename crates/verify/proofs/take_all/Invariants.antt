-- `verify::take_all` meets its contract. The invariant: an input was taken in, by the pieces so far, a byte or more for each turn that is gone.
-- Assumes nothing.
use Rattle.grounds_intake.specs.Machine.{memory, fresh}
use Rattle.verify.proofs.Runs.{Going}
use Rattle.verify.proofs.take_all.Given as goal

abbrev pub invariant-loop : goal.invariant-loop
invariant-loop g l = Going (memory fresh l.initial.text l.initial.steps) l.parser l.text l.steps l.counter
