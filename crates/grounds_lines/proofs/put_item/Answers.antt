-- `grounds_lines::put_item` meets its contract: an item below the number of steps is a step, and any other a conclusion.
-- Assumes nothing.
use Rattle.grounds_lines.proofs.Frames.{mine}
use Rattle.grounds_lines.proofs.put_item.Goals as goal

pub put_step-requires : goal.put_step-requires
put_step-requires c = search mine

pub put_end-requires-clause-at_in_bounds : goal.put_end-requires-clause-at_in_bounds
put_end-requires-clause-at_in_bounds c = search mine

pub returns-then-p-n : goal.returns-then-p-n
returns-then-p-n c = search mine

pub returns-else-p-n : goal.returns-else-p-n
returns-else-p-n c = search mine
