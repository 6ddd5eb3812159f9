-- `grounds_judgement::judge` meets its contract. A text is refused as it is ruled on; the filled parts of the runs of one that is ready are well-formed.
-- Assumes nothing.
use Rattle.grounds_judgement.proofs.Judging.{mine}
use Rattle.grounds_judgement.proofs.judge.Goals as goal

pub returns-in_err-ruled : goal.returns-in_err-ruled
returns-in_err-ruled c = search mine

pub returns : goal.returns
returns c = search mine

pub rows-requires : goal.rows-requires
rows-requires c = search mine

pub said-requires : goal.said-requires
said-requires c = search mine

pub patterns-requires : goal.patterns-requires
patterns-requires c = search mine

pub literals-requires : goal.literals-requires
literals-requires c = search mine

pub judge-requires-clause-fit_context : goal.judge-requires-clause-fit_context
judge-requires-clause-fit_context c = search mine

pub judge-requires-clause-fit_clause : goal.judge-requires-clause-fit_clause
judge-requires-clause-fit_clause c = search mine
