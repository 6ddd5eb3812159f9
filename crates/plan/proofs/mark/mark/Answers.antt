-- `plan::mark::mark` meets its contract.
-- Assumes nothing.
use mathlib.Core.Path.{refl, sym, ◌∙◌}
use borrow.Author.Tests.{eqb-true, eqb-false}
use Rattle.plan.proofs.Levels.{row-args}
use Rattle.plan.proofs.Marks.{mark-variable, mark-symbol}
use Rattle.plan.proofs.mark.mark.Goals as goal

pub returns-then-is_variable : goal.returns-then-is_variable
returns-then-is_variable c = mark-variable c.requires _ _ _ _ (eqb-true _ 4 (sym c.is_variable.ensures ∙ c.if-is_variable.true)) refl c.digit.ensures

pub over_args-requires : goal.over_args-requires
over_args-requires c = row-args c.requires (eqb-false _ 4 (sym c.is_variable.ensures ∙ c.if-is_variable.false))

pub returns : goal.returns
returns c = mark-symbol c.requires _ _ _ (eqb-false _ 4 (sym c.is_variable.ensures ∙ c.if-is_variable.false)) c.over_args.ensures
