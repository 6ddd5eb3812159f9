-- `runs::fit::fit_clause` meets its contract. The ways are too many pattern rows, too many literals, a pattern row that is not well-formed, and the literals.
-- Assumes nothing.
use Rattle.runs.proofs.Ruled.{mine}
use Rattle.runs.proofs.fit.fit_clause.Goals as goal

pub returns-then-not-patterns_placed : goal.returns-then-not-patterns_placed
returns-then-not-patterns_placed c = search mine

pub returns : goal.returns
returns c = search mine
