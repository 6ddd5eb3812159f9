-- `lines::digits_end` meets its contract. The invariant: every byte from where the line begins to before i is a digit.
-- Assumes nothing.
use Rattle.text_lines.proofs.Scan.{Scan}
use Rattle.text_lines.proofs.lines.digits_end.Given as goal

abbrev pub invariant-loop-i : goal.invariant-loop-i
invariant-loop-i l = Scan l.text l.at l.i
