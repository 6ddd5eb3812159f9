-- `columns::named` meets its contract.
-- Assumes nothing.
use Rattle.columns.specs.Fit.{Every, NamedAt}
use Rattle.columns.proofs.named.Given as goal

abbrev pub invariant-loop-j : goal.invariant-loop-j
invariant-loop-j l = Every l.j (NamedAt l.lefts l.rights l.limit)
