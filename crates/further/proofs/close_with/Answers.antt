-- `further::close_with` meets its contract. The tests say just that the columns are fit and one can start; then `settle_with` keeps the promise, and else the table is as it was.
-- Assumes nothing.
use mathlib.Core.Path.{refl}
use Rattle.columns.proofs.Deciding.{decides_not}
use Rattle.further.proofs.Answers.{fit-rows, furthers-closed}
use Rattle.further.proofs.close_with.Goals as goal

pub returns-then-not-fit_context : goal.returns-then-not-fit_context
returns-then-not-fit_context c = record { closes = record { so = (λ f s. decides_not c.fit_context.ensures.fit c.if-not-fit_context.true f, refl) } }

pub returns-then-not-startable : goal.returns-then-not-startable
returns-then-not-startable c = record { closes = record { so = (λ f s. decides_not c.startable.ensures c.if-not-startable.true s, refl) } }

pub settle_with-requires : goal.settle_with-requires
settle_with-requires c =
    let so = c.if-not-fit_context.false in
    record { fit_rows = fit-rows _ _ _ _ _ _ _ _ (c.fit_context.ensures.fit.holds so) (c.fit_context.ensures.laid so); startable = c.startable.ensures.holds c.if-not-startable.false }

pub returns : goal.returns
returns c =
    let fit = c.fit_context.ensures.fit.holds c.if-not-fit_context.false in
    record { closes = record { so = furthers-closed _ _ _ _ _ _ _ _ _ _ _ _ fit (c.startable.ensures.holds c.if-not-startable.false) c.settle_with.ensures } }
