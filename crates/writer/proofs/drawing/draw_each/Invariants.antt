-- `writer::drawing::draw_each` meets its contract. The invariant: the first j literals are written.
-- Assumes nothing.
use Prim.Native.Nat.{◌≤◌}
use Rattle.runs.specs.Limits.{most_literals}
use Rattle.grounds_words.specs.Holding.{out_in, Keeps}
use Rattle.writer.proofs.Turning.{Turning}
use Rattle.writer.proofs.drawing.draw_each.Given as goal

abbrev pub invariant-loop-j : goal.invariant-loop-j
invariant-loop-j l =
    record {
      few : l.many ≤ most_literals;
      keeps : Keeps l.initial.out l.out;
      turns :
          Turning l.closed.keys.now l.numbers l.closed.apart.now l.literals l.n l.initial.cells l.closed.table.now l.initial.out.steps.now l.many l.from l.j l.cells (out_in l.out) l.firsts l.differences;
    }
