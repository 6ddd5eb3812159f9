-- `search_sets::words::meet_with` meets its contract.
-- Assumes nothing.
use Prim.Native.Nat.{◌≤◌}
use Rattle.search_sets.specs.Words.{MetWith}
use Rattle.search_sets.proofs.words.meet_with.Given as goal

abbrev pub invariant-loop-i : goal.invariant-loop-i
invariant-loop-i l = (l.i ≤ l.n) × MetWith l.initial.words l.others l.words l.a l.b l.i
