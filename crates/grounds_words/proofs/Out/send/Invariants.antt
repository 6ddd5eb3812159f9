-- `grounds_words::Out::send` meets its contract. The invariant: the first i steps are sent.
-- Assumes nothing.
use Rattle.grounds_words.proofs.Emitting.{Through}
use Rattle.grounds_words.proofs.Out.send.Given as goal

abbrev pub invariant-loop-i : goal.invariant-loop-i
invariant-loop-i l = Through l.column.rows l.column.from l.column.owner l.column.cells.now l.marks l.n l.initial.self l.self l.i
