-- `channels::send` meets its contract. The invariant: the writer took the bytes that stand in front of those that are left, and so many were counted.
-- Assumes nothing.
use Rattle.std.proofs.Common.{◌≡◌, ℕ, List, ◌++◌, length}
use Rattle.std.specs.Io.KnownBytes.{Appends}
use Rattle.channels.proofs.output.send.Given as goal

abbrev pub invariant-loop : goal.invariant-loop
invariant-loop g l =
    (taken : List ℕ) × (l.initial.rest ≡ taken ++ l.rest) × Appends (g.W.Write.contents l.initial.writer) (g.W.Write.contents l.writer) taken × (l.done ≡ length taken)
