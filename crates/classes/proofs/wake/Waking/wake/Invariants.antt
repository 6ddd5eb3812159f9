-- `classes::wake::Waking::wake` meets its contract. The invariant: what a link leads to is a place of an argument.
-- Assumes nothing.
use Rattle.std.specs.Prelude.{IfSome}
use Prim.Native.Nat.{◌<◌}
use Rattle.classes.specs.Steps.{most_args}
use Rattle.classes.proofs.wake.Waking.wake.Given as goal

abbrev pub invariant-loop : goal.invariant-loop
invariant-loop l = IfSome l.at (λ at. at < most_args)
