-- `bytes` meets its contract. The invariant: the first i places are set.
-- Assumes nothing.
use Rattle.layout.specs.Columns.{byte_at}
use Rattle.layout.proofs.Laying.{Laid}
use Rattle.layout.proofs.bytes.Given as goal

abbrev pub invariant-loop-i : goal.invariant-loop-i
invariant-loop-i g l = Laid (byte_at l.run l.size l.from) l.n l.initial.out l.out l.i
