-- `further::clashes_with` meets its contract. The tests say just that the columns are fit and the table orderly, which the table of a closing is.
-- Assumes nothing.
use mathlib.Core.Path.{refl}
use Rattle.columns.proofs.Deciding.{decides_not}
use Rattle.further.proofs.Answers.{fit-rows}
use Rattle.further.proofs.Wider.{clashes-unfit, clashes-stray}
use Rattle.further.proofs.clashes_with.Goals as goal

pub returns-then-not-fit_context : goal.returns-then-not-fit_context
returns-then-not-fit_context c = record { clashes = clashes-unfit _ _ _ _ _ _ _ _ _ _ _ _ (decides_not c.fit_context.ensures.fit c.if-not-fit_context.true); unfit = λ _. refl }

pub returns-then-not-orderly : goal.returns-then-not-orderly
returns-then-not-orderly c = record { clashes = clashes-stray _ _ _ _ _ _ _ _ _ _ _ _ (decides_not c.orderly.ensures c.if-not-orderly.true); unfit = λ _. refl }

pub clashes_ready-requires : goal.clashes_ready-requires
clashes_ready-requires c =
    let so = c.if-not-fit_context.false in
    record { fit_rows = fit-rows _ _ _ _ _ _ _ _ (c.fit_context.ensures.fit.holds so) (c.fit_context.ensures.laid so); orderly = c.orderly.ensures.holds c.if-not-orderly.false }

pub returns : goal.returns
returns c =
    record { clashes = c.clashes_ready.ensures.clashes; unfit = λ n. absurd (n (c.fit_context.ensures.fit.holds c.if-not-fit_context.false) (c.orderly.ensures.holds c.if-not-orderly.false)) }
