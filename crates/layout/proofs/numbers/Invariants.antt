-- `numbers` meets its contract. The invariant: the first i places are set.
-- Assumes nothing.
use Rattle.layout.specs.Columns.{number_at}
use Rattle.layout.proofs.Laying.{Laid}
use Rattle.layout.proofs.numbers.Given as goal

abbrev pub invariant-loop-i : goal.invariant-loop-i
invariant-loop-i g l = Laid (number_at l.run l.size l.from) l.n l.initial.out l.out l.i
