-- `grounds_verdict::Claim::judge_by` meets its contract. Each way out is one case of the verdict, by the filled table.
-- Assumes nothing.
use Rattle.grounds_verdict.proofs.Judging.{mine}
use Rattle.grounds_verdict.proofs.Claim.judge_by.Goals as goal

pub invariant_of-table : goal.invariant_of-table
invariant_of-table c = search mine

pub returns-in-Some : goal.returns-in-Some
returns-in-Some c = search mine

pub returns-in-Some-open_literal : goal.returns-in-Some-open_literal
returns-in-Some-open_literal c = search mine

pub returns : goal.returns
returns c = search mine
