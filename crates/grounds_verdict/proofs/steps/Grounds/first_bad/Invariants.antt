-- `grounds_verdict::steps::Grounds::first_bad` meets its contract. The invariant: every step passed follows.
-- Assumes nothing.
use lib.ListN.{length}
use Rattle.grounds_verdict.specs.Tests.{follows_at}
use Rattle.grounds_verdict.proofs.Running.{Running}
use Rattle.grounds_verdict.proofs.steps.Grounds.first_bad.Given as goal

abbrev pub invariant-loop-i : goal.invariant-loop-i
invariant-loop-i l = Running (follows_at l.self.table.keys.now l.self.pairs.now l.self.literals.now l.self.table.numbers.now l.self.table.rows l.self.steps.now) (length l.self.steps.now) l.i
