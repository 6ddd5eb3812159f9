-- `normal::put_keys` meets its contract. The invariant: the lines of the first keys are put, and those that are left fit.
-- Assumes nothing.
use lib.ListN.{length}
use Rattle.normaliser.specs.Pieces.{key_piece}
use Rattle.reply_lines.proofs.Running.{Running}
use Rattle.normaliser.proofs.normal.put_keys.Given as goal

abbrev pub invariant-loop-key : goal.invariant-loop-key
invariant-loop-key l = Running (key_piece l.keys) (length l.keys) l.initial.lent l.at l.key-index l.to l.lent
