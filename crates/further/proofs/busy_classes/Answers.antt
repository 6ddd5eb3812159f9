-- `further::busy_classes` meets its contract. All are marked where the columns are not fit or the table shows a clash; else the arguments and then the sides are.
-- Assumes nothing.
use mathlib.Core.Path.{refl}
use Rattle.columns.proofs.Deciding.{decides_not}
use Rattle.further.proofs.Answers.{fit-rows}
use Rattle.further.proofs.Raising.{marks-unfit, marks-clash, marks-all}
use Rattle.further.proofs.busy_classes.Goals as goal

pub returns-then-not-fit_context : goal.returns-then-not-fit_context
returns-then-not-fit_context c = record { marks = marks-unfit _ _ _ _ _ _ _ _ _ (decides_not c.fit_context.ensures.fit c.if-not-fit_context.true) _ refl }

pub returns-then-follows : goal.returns-then-follows
returns-then-follows c =
    record { marks = marks-clash _ _ _ _ _ _ _ _ _ (c.fit_context.ensures.fit.holds c.if-not-fit_context.false) _ c.follows.ensures c.if-follows.true _ refl }

pub mark_rows-requires : goal.mark_rows-requires
mark_rows-requires c =
    let so = c.if-not-fit_context.false in
    (fit-rows _ _ _ _ _ _ _ _ (c.fit_context.ensures.fit.holds so) (c.fit_context.ensures.laid so)).laid

pub mark_sides-requires : goal.mark_sides-requires
mark_sides-requires c =
    (c.fit_context.ensures.fit.holds c.if-not-fit_context.false).statements-few

pub returns : goal.returns
returns c =
    record {
      marks = marks-all _ _ _ _ _ _ _ _ _ (c.fit_context.ensures.fit.holds c.if-not-fit_context.false) _ c.follows.ensures c.if-follows.false _ _ _ refl
          c.mark_rows.ensures
          c.mark_sides.ensures;
    }
