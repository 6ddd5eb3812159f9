-- `grounds_verdict::judge` meets its contract. Where every variable passed the test, each has a row, and the steps decide.
-- Assumes nothing.
use Rattle.grounds_verdict.proofs.Judging.{mine}
use Rattle.grounds_verdict.proofs.judge.Goals as goal

pub returns-in-Some : goal.returns-in-Some
returns-in-Some c = search mine

pub judge_steps-requires-clause-chosen : goal.judge_steps-requires-clause-chosen
judge_steps-requires-clause-chosen c = let none = c.in_default.ensures in search mine
