-- `arguments` meets its contract. The invariant: the first x places are set.
-- Assumes nothing.
use Prim.Native.Nat.{◌*◌}
use Rattle.layout.specs.Columns.{arg_at}
use Rattle.layout.proofs.Laying.{Laid}
use Rattle.layout.proofs.arguments.Given as goal

abbrev pub invariant-loop-x : goal.invariant-loop-x
invariant-loop-x g l = Laid (arg_at l.run l.size l.from) (l.n * 4) l.initial.out l.out l.x
