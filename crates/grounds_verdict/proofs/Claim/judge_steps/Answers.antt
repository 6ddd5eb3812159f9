-- `grounds_verdict::Claim::judge_steps` meets its contract. There is room for every entry and every statement, and the parts that are needed are lent.
-- Assumes nothing.
use Rattle.grounds_verdict.proofs.Judging.{mine}
use Rattle.grounds_verdict.proofs.Claim.judge_steps.Goals as goal

pub judge_by-requires-clause-well_formed : goal.judge_by-requires-clause-well_formed
judge_by-requires-clause-well_formed c = search mine
