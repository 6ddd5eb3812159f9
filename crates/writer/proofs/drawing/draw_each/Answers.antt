use Rattle.writer.proofs.Turning.{mine, next}
use Rattle.writer.proofs.drawing.draw_each.Goals as goal

pub bounds-cells-0 : goal.bounds-cells-0
bounds-cells-0 c = search mine

pub loop-j-init : goal.loop-j-init
loop-j-init c = record { few = search mine; keeps = search mine; turns = search mine }

pub ask-q-requires : goal.ask-q-requires
ask-q-requires c = record { n_in_bounds = search mine; j_bound = search mine; j_lt_most_literals = search mine }

pub draw_one-s-requires : goal.draw_one-s-requires
draw_one-s-requires c = search mine

pub loop-j-preserved : goal.loop-j-preserved
loop-j-preserved c = record { few = search mine; keeps = search mine; turns = search next }

pub returns-clause-drew : goal.returns-clause-drew
returns-clause-drew c = search mine

pub returns-clause-keeps : goal.returns-clause-keeps
returns-clause-keeps c = search mine
