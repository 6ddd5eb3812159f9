-- `plan::reach::none_reaches` meets its contract.
-- Assumes nothing.
use mathlib.Core.Bool.{false}
use mathlib.Core.Path.{◌≡◌}
use Rattle.columns.specs.Fit.{Every}
use Rattle.meaning.proofs.Built.{literal_at}
use Rattle.plan.specs.Marks.{reaches}
use Rattle.plan.proofs.reach.none_reaches.Given as goal

abbrev pub invariant-loop-l : goal.invariant-loop-l
invariant-loop-l l = Every l.l (λ j. reaches l.marks (literal_at l.literals.signs.now l.literals.lefts.now l.literals.rights.now j) ≡ false)
