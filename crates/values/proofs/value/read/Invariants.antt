-- `values::value::read` meets its contract.
-- Assumes nothing.
use Prim.Native.Nat.{◌≤◌}
use mathlib.Core.Path.{◌≡◌}
use Rattle.values.specs.Reading.{read_in}
use Rattle.values.proofs.value.read.Given as goal

abbrev pub invariant-loop-j : goal.invariant-loop-j
invariant-loop-j l = (l.from ≤ l.j) × (l.j ≤ l.to) × (read_in l.reading l.chosen l.values-2 l.from l.to ≡ read_in l.reading l.chosen l.values l.j l.to)
