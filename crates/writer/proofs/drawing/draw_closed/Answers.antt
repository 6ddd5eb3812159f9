-- `writer::drawing::draw_closed` meets its contract. The differences in a run are those that the context states, and what the turns leave shows the breach.
-- Assumes nothing.
use Rattle.writer.proofs.Starting.{mine, draw-entered, shows-handed}
use Rattle.writer.proofs.drawing.draw_closed.Goals as goal

pub invariant_of-closed : goal.invariant_of-closed
invariant_of-closed c =
    let p = c.args.breach.problem in
    let e = draw-entered p.rows.now p.said.now p.patterns.now p.literals.now c.args.breach.asg c.args.breach.keys.now c.args.breach.numbers.now c.requires.entries in
    record { room = search mine; numbers = e.numbers; few = e.few; apart_few = search mine }

pub draw_each-conclusions-requires-clause-drawable : goal.draw_each-conclusions-requires-clause-drawable
draw_each-conclusions-requires-clause-drawable c = search mine

pub returns : goal.returns
returns c = shows-handed {w' = c.draw_each-conclusions.new.out.steps.now} (search mine) (search mine)
