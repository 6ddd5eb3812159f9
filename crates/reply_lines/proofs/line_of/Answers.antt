-- `reply_lines::line_of` meets its contract: a line put at the front of 32 zeros leaves zeros behind it.
-- Assumes nothing.
use native.Mathlib.Omega.{arith}
use Rattle.reply_lines.proofs.Printing.{line-within, mine}
use Rattle.reply_lines.proofs.line_of.Goals as goal

pub invariant_of-result : goal.invariant_of-result
invariant_of-result c = record { within = line-within _ _ _ _ (search mine) (omega arith) c.put_frame-len.ensures }

pub returns : goal.returns
returns c = search mine
