-- `fill` meets its contract. The invariant: the pieces are what the lines before the state's place said. Each line passed leaves less of the text.
-- Assumes nothing.
use Prim.Native.Nat.{◌-◌}
use lib.ListN.{length}
use Rattle.text_reader.specs.Lines.{Stands}
use Rattle.text_reader.proofs.fill.Given as goal

abbrev pub invariant-loop-s : goal.invariant-loop-s
invariant-loop-s l = Stands l.text l.s l.pieces

abbrev pub decreases-loop-s : goal.decreases-loop-s
decreases-loop-s l = length l.text - l.s.at
