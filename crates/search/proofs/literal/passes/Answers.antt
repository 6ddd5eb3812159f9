-- `search::literal::passes` meets its contract.
-- Assumes nothing.
use mathlib.Core.Path.{refl, sym, ◌∙◌}
use borrow.Author.Tests.{eqb-true, eqb-false}
use Rattle.search.proofs.Testing.{pass-early, pass-equal, pass-unequal}
use Rattle.search.proofs.literal.passes.Goals as goal

pub returns-then-max-level : goal.returns-then-max-level
returns-then-max-level c =
    record { value = pass-early _ c.args.level c.args.levels.now c.args.values.now _ _ _ _ _ _ c.from-p.ensures c.from-q.ensures c.max.ensures c.if-max-level.true; knows_2 = c.requires.knows }

pub returns-then-is_equal : goal.returns-then-is_equal
returns-then-is_equal c =
    record { value = pass-equal _ c.args.level c.args.levels.now c.args.values.now _ _ _ _ _ _ c.from-p.ensures c.from-q.ensures c.max.ensures c.if-max-level.false _ (eqb-true _ 6 (sym c.is_equal.ensures ∙ c.if-is_equal.true)) refl; knows_2 = c.requires.knows }

pub ask-requires : goal.ask-requires
ask-requires c = record { closed_by = c.requires.closed_by; knows = c.requires.knows }

pub returns : goal.returns
returns c =
    record { value = pass-unequal _ c.args.level c.args.levels.now c.args.values.now _ _ _ _ _ _ c.from-p.ensures c.from-q.ensures c.max.ensures c.if-max-level.false _ (eqb-false _ 6 (sym c.is_equal.ensures ∙ c.if-is_equal.false)) c.ask.ensures.value; knows_2 = c.ask.ensures.knows_2 }
