-- `plan::level::reached` meets its contract.
-- Assumes nothing.
use mathlib.Core.Path.{sym, ◌∙◌}
use borrow.Author.Tests.{eqb-true, eqb-false}
use Rattle.plan.proofs.Levels.{reached-variable, reached-symbol}
use Rattle.plan.proofs.level.reached.Goals as goal

pub over_variable-requires : goal.over_variable-requires
over_variable-requires c = c.requires.1 (eqb-true _ 4 (sym c.is_variable.ensures ∙ c.if-is_variable.true))

pub returns-then-is_variable : goal.returns-then-is_variable
returns-then-is_variable c = reached-variable _ _ _ _ (eqb-true _ 4 (sym c.is_variable.ensures ∙ c.if-is_variable.true)) c.over_variable.ensures

pub returns : goal.returns
returns c = reached-symbol _ c.args.patterns.now.heads.now _ (eqb-false _ 4 (sym c.is_variable.ensures ∙ c.if-is_variable.false))
