-- `grounds_verdict::steps::Grounds::first_open` meets its contract. The invariant: every literal passed is concluded.
-- Assumes nothing.
use Rattle.runs.specs.Runs.{literal_count}
use Rattle.grounds_verdict.specs.Tests.{concluded_at}
use Rattle.grounds_verdict.proofs.Running.{Running}
use Rattle.grounds_verdict.proofs.steps.Grounds.first_open.Given as goal

abbrev pub invariant-loop-j : goal.invariant-loop-j
invariant-loop-j l = Running (concluded_at l.self.literals.now l.d l.self.pairs.now l.self.table.numbers.now l.self.table.rows l.self.steps.now) (literal_count l.self.literals.now) l.j
