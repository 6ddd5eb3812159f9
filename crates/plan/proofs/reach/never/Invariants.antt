-- `plan::reach::never` meets its contract.
-- Assumes nothing.
use mathlib.Core.Bool.{false}
use mathlib.Core.Path.{◌≡◌}
use Rattle.columns.specs.Fit.{Every}
use Rattle.meaning.proofs.Built.{literal_at}
use Rattle.plan.specs.Reach.{self_unequal}
use Rattle.plan.proofs.reach.never.Given as goal

abbrev pub invariant-loop-l : goal.invariant-loop-l
invariant-loop-l l = Every l.l (λ j. self_unequal (literal_at l.literals.signs.now l.literals.lefts.now l.literals.rights.now j) ≡ false)
