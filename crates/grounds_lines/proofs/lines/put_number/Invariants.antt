-- `grounds_lines::lines::put_number` meets its contract. The invariant: the bytes from byte k on are stored, and those before it are of `rest`.
-- Assumes nothing.
use Rattle.grounds_lines.proofs.Numbers.{Storing}
use Rattle.grounds_lines.proofs.lines.put_number.Given as goal

abbrev pub invariant-loop-k : goal.invariant-loop-k
invariant-loop-k l = Storing l.initial.rest l.n l.initial.lent l.at l.k l.rest l.lent
