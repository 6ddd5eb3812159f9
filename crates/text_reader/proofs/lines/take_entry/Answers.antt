-- `lines::take_entry` meets its contract: what the entry adds is written, or the line's fault is answered.
-- Assumes nothing.
use Rattle.text_reader.proofs.Entered.{mine, steps-on, steps-refused}
use Rattle.text_reader.proofs.lines.take_entry.Goals as goal

pub returns-in_err-entry : goal.returns-in_err-entry
returns-in_err-entry c = record { steps = steps-refused c.requires.reached c.in_err-entry.ensures _ c.from_residual.ensures.1 }

pub put-requires : goal.put-requires
put-requires c = search mine

pub returns : goal.returns
returns c = record { steps = steps-on c.requires.reached c.in_ok-entry.ensures c.after.ensures c.put.ensures }
