-- `reply_lines::hex::put_frame` meets its contract. The invariant: the first k fields are stored as digits, two a field.
-- Assumes nothing.
use lib.ListN.{take}
use Rattle.reply_lines.proofs.Lines.{Framing}
use Rattle.reply_lines.proofs.hex.put_frame.Given as goal

abbrev pub invariant-loop-k : goal.invariant-loop-k
invariant-loop-k l = Framing (take l.n l.fn.fields) l.initial.lent l.at l.k l.lent
