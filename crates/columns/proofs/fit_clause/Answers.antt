-- `columns::fit_clause` meets its contract.
-- Assumes nothing.
use native.Mathlib.Omega.{arith}
use Rattle.columns.proofs.Deciding.{decides-false, decides_not, never}
use Rattle.columns.proofs.Flat.{fit-patterns, clause-decides}
use Rattle.columns.proofs.fit_clause.Goals as goal

pub returns-then-rows-gt64 : goal.returns-then-rows-gt64
returns-then-rows-gt64 c = record { fit = decides-false (λ f. omega (arith, f.patterns-few)); laid = never }

pub returns-then-count-gt16 : goal.returns-then-count-gt16
returns-then-count-gt16 c = record { fit = decides-false (λ f. omega arith); laid = never }

pub returns-then-not-patterns_placed : goal.returns-then-not-patterns_placed
returns-then-not-patterns_placed c = record { fit = decides-false (λ f. decides_not c.patterns_placed.ensures c.if-not-patterns_placed.true (fit-patterns _ _ _ _ _ _ _ _ _ f (omega (arith, c.patterns_placed-arg-2-1.given)))); laid = never }

pub returns : goal.returns
returns c = record { fit = clause-decides _ _ _ _ _ _ _ _ _ c.if-rows-gt64.false c.if-count-gt16.false (c.patterns_placed.ensures.holds c.if-not-patterns_placed.false) c.named.ensures; laid = λ _. record { long = omega (arith, c.patterns_placed-arg-2-1.given); placed = c.patterns_placed.ensures.holds c.if-not-patterns_placed.false } }
