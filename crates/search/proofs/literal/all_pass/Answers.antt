use mathlib.Core.Path.{sym, ◌∙◌}
use Rattle.meaning.specs.Pruning.{due}
use Rattle.columns.proofs.Deciding.{every-none, every_more}
use Rattle.search.proofs.Testing.{all-passed, one-failed}
use native.Mathlib.Omega.{arith}
use Rattle.search.proofs.literal.all_pass.Goals as goal

pub loop-l-init : goal.loop-l-init
loop-l-init c = (c.requires.knows, every-none)

pub passes-requires : goal.passes-requires
passes-requires c =
    record { closed_by = c.requires.closed_by; knows = c.loop-l.invariant.0; l_bound = (omega (arith, c.requires.tested.few, c.loop-l-test.true), c.requires.tested.named.each _ c.loop-l-test.true) }

pub returns-then-not-passes : goal.returns-then-not-passes
returns-then-not-passes c =
    record { value = one-failed _ (due c.args.level c.args.levels.now) c.args.values.now _ _ _ _ _ c.loop-l-test.true (sym c.passes.ensures.value ∙ c.if-not-passes.true); knows_2 = c.passes.ensures.knows_2 }

pub loop-l-preserved : goal.loop-l-preserved
loop-l-preserved c = (c.passes.ensures.knows_2, every_more c.loop-l.invariant.1 (sym c.passes.ensures.value ∙ c.if-not-passes.false))

pub returns : goal.returns
returns c =
    record { value = all-passed _ (due c.args.level c.args.levels.now) c.args.values.now _ _ _ _ (λ i h. c.loop-l.invariant.1.each i (omega arith)); knows_2 = c.loop-l.invariant.0 }
