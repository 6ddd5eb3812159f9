-- `find_runs` meets its contract: unfit, the refusal, or what the search answers.
-- Assumes nothing.
use Rattle.records.proofs.Judging.{mine}
use Rattle.records.proofs.finding.find_runs.Goals as goal

pub returns-then-not-fit_clause : goal.returns-then-not-fit_clause
returns-then-not-fit_clause c = search mine

pub returns-in-Unfit : goal.returns-in-Unfit
returns-in-Unfit c = search mine

pub judge-requires : goal.judge-requires
judge-requires c = search mine

pub returns-in-Err : goal.returns-in-Err
returns-in-Err c = search mine

pub returns : goal.returns
returns c = search mine
