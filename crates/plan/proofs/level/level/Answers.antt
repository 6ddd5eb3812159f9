-- `plan::level::level` meets its contract.
-- Assumes nothing.
use mathlib.Core.Path.{sym, ◌∙◌}
use borrow.Author.Tests.{eqb-true, eqb-false}
use Rattle.plan.proofs.Levels.{row-args, level-variable, level-symbol}
use Rattle.plan.proofs.level.level.Goals as goal

pub over_variable-requires : goal.over_variable-requires
over_variable-requires c = c.requires.pattern.variable (eqb-true _ 4 (sym c.is_variable.ensures ∙ c.if-is_variable.true))

pub returns-then-is_variable : goal.returns-then-is_variable
returns-then-is_variable c = level-variable c.requires _ _ (eqb-true _ 4 (sym c.is_variable.ensures ∙ c.if-is_variable.true)) c.over_variable.ensures

pub over_args-requires : goal.over_args-requires
over_args-requires c = row-args c.requires (eqb-false _ 4 (sym c.is_variable.ensures ∙ c.if-is_variable.false))

pub returns : goal.returns
returns c = level-symbol c.requires _ _ (eqb-false _ 4 (sym c.is_variable.ensures ∙ c.if-is_variable.false)) c.over_args.ensures
