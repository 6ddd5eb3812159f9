-- `channels::fill` meets its contract. The invariant: the space is as long as before, and what stands in it is what the reader gave.
-- Assumes nothing.
use Rattle.std.proofs.Common.{◌≡◌, ◌≤◌, length, take}
use Rattle.std.specs.Io.KnownBytes.{Consumes}
use Rattle.channels.proofs.input.fill.Given as goal

abbrev pub invariant-loop : goal.invariant-loop
invariant-loop g l =
    (length l.space ≡ length l.initial.space) × (l.done ≤ length l.space) × Consumes (g.R.Read.remaining l.initial.reader) (g.R.Read.remaining l.reader) (take l.done l.space)
