-- `runs::fit::fit_context` meets its contract. The ways are too many rows, too many statements, a row that is not well-formed, and the statements.
-- Assumes nothing.
use Rattle.runs.proofs.Formed.{mine}
use Rattle.runs.proofs.fit.fit_context.Goals as goal

pub returns-then-not-rows_placed : goal.returns-then-not-rows_placed
returns-then-not-rows_placed c = search mine

pub returns : goal.returns
returns c = search mine
