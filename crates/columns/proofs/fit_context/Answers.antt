-- `columns::fit_context` meets its contract.
-- Assumes nothing.
use native.Mathlib.Omega.{arith}
use Rattle.columns.proofs.Deciding.{decides-false, decides_not, never}
use Rattle.columns.proofs.Flat.{fit-rows, context-decides}
use Rattle.columns.proofs.fit_context.Goals as goal

pub returns-then-rows-gt255 : goal.returns-then-rows-gt255
returns-then-rows-gt255 c = record { fit = decides-false (λ f. omega (arith, f.rows_few)); laid = never }

pub returns-then-count-gt510 : goal.returns-then-count-gt510
returns-then-count-gt510 c = record { fit = decides-false (λ f. omega arith); laid = never }

pub returns-then-not-rows_placed : goal.returns-then-not-rows_placed
returns-then-not-rows_placed c = record { fit = decides-false (λ f. decides_not c.rows_placed.ensures c.if-not-rows_placed.true (fit-rows _ _ _ _ _ _ _ _ f (omega (arith, c.rows_placed-arg-2-1.given)))); laid = never }

pub returns : goal.returns
returns c = record { fit = context-decides _ _ _ _ _ _ _ _ c.if-rows-gt255.false c.if-count-gt510.false (c.rows_placed.ensures.holds c.if-not-rows_placed.false) c.named.ensures; laid = λ _. record { long = omega (arith, c.rows_placed-arg-2-1.given); placed = c.rows_placed.ensures.holds c.if-not-rows_placed.false } }
