-- `grounds_words::batch` meets its contract. Forgotten, marked and sent, one after the other, with a mark for each number.
-- Assumes nothing.
use mathlib.Core.Path.{refl}
use Rattle.grounds_words.proofs.Emitting.{mine, batch-all}
use Rattle.grounds_words.proofs.batch.Goals as goal

pub mark-requires-clause-marks_value : goal.mark-requires-clause-marks_value
mark-requires-clause-marks_value c = search mine

pub returns-clause-batched : goal.returns-clause-batched
returns-clause-batched c =
    batch-all c.args.column.rows c.args.column.from c.args.column.owner c.args.column.cells.now c.args.s c.args.out.now c.send.ensures c.forget.ensures refl refl c.mark.ensures
    c.step_count.ensures.small
