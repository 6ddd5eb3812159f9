-- `Pieces::clashes` meets its contract. The invariant: r is the number of clashes among the first i.
-- Assumes nothing.
use Rattle.text_reader.proofs.Agreeing.{Counted}
use Rattle.text_reader.proofs.pieces.Pieces.clashes.Given as goal

abbrev pub invariant-loop-i : goal.invariant-loop-i
invariant-loop-i l = Counted l.self.symbols l.self.counts l.f l.k l.n l.i l.r
