-- `lines::take_line` meets its contract: a line that is not legible is refused, and of any other the entry is taken.
-- Assumes nothing.
use Rattle.text_reader.proofs.Entered.{steps-illegible}
use Rattle.text_reader.proofs.lines.take_line.Goals as goal

pub returns-in_err-end : goal.returns-in_err-end
returns-in_err-end c = record { steps = steps-illegible c.requires.stands.0 c.in_err-end.field-0.0 c.in_err-end.ensures.line _ c.from_residual.ensures.1 }
