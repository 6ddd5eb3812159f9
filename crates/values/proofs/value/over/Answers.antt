use mathlib.Core.Path.{refl, sym, ◌∙◌}
use Rattle.meaning.specs.Values.{number_at}
use Rattle.values.proofs.Reading.{shaped-lined, over-variable, over-symbol}
use Rattle.values.proofs.Comparing.{symbol-other, symbol-same, over-lengths, over-start, over-next, over-differs, over_done}
use borrow.Author.Rules.{rules}
use borrow.Author.Tests.{eqb-true, eqb-false}
use native.Mathlib.Omega.{arith}
use Rattle.values.proofs.value.over.Goals as goal

pub returns-then-is_variable : goal.returns-then-is_variable
returns-then-is_variable c = over-variable c.requires _ _ _ (eqb-true _ 4 (sym c.is_variable.ensures ∙ c.if-is_variable.true))

pub returns-then-heads-q : goal.returns-then-heads-q
returns-then-heads-q c = over-symbol c.requires _ _ _ _ (eqb-false _ 4 (sym c.is_variable.ensures ∙ c.if-is_variable.false)) (symbol-other _ _ _ c.if-heads-q.true)

pub returns-then-from-count : goal.returns-then-from-count
returns-then-from-count c = over-symbol c.requires _ _ _ _ (eqb-false _ 4 (sym c.is_variable.ensures ∙ c.if-is_variable.false)) (symbol-same _ _ _ _ c.if-heads-q.false (over-lengths (number_at c.args.values.now) _ _ _ _ _ (shaped-lined c.requires (eqb-false _ 4 (sym c.is_variable.ensures ∙ c.if-is_variable.false))) (search rules) (λ e. c.if-from-count.true (c.from.ensures ∙ e))))

pub loop-k-init : goal.loop-k-init
loop-k-init c = (omega arith, sym c.if-from-count.false ∙ c.from.ensures, c.if-heads-q.false, (eqb-false _ 4 (sym c.is_variable.ensures ∙ c.if-is_variable.false)), over-start (number_at c.args.values.now) _ _ _ _ _ (shaped-lined c.requires (eqb-false _ 4 (sym c.is_variable.ensures ∙ c.if-is_variable.false))) (search rules) (sym c.if-from-count.false ∙ c.from.ensures))

pub offset_bounds-values-from : goal.offset_bounds-values-from
offset_bounds-values-from c = omega (arith, c.requires.inside, (c.requires.pattern.symbol c.loop-k.invariant.3).earlier.each c.loop-k.k (omega arith))

pub bounds-values-from : goal.bounds-values-from
bounds-values-from c = omega (arith, c.requires.inside, (c.requires.pattern.symbol c.loop-k.invariant.3).earlier.each c.loop-k.k (omega arith))

pub offset_bounds-wanted-k : goal.offset_bounds-wanted-k
offset_bounds-wanted-k c = omega (arith, c.requires.few)

pub bounds-wanted-k : goal.bounds-wanted-k
bounds-wanted-k c = omega (arith, c.requires.few)

pub returns-then-values-from : goal.returns-then-values-from
returns-then-values-from c = over-symbol c.requires _ _ _ _ c.loop-k.invariant.3 (symbol-same _ _ _ _ c.loop-k.invariant.2 (over-differs (number_at c.args.values.now) _ _ _ _ _ (shaped-lined c.requires c.loop-k.invariant.3) (search rules) c.loop-k.invariant.1 _ c.loop-k.invariant.4 _ _ c.loop-k-test.true c.from-in-loop-k.ensures refl c.if-values-from.true))

pub loop-k-preserved : goal.loop-k-preserved
loop-k-preserved c = (omega arith, c.loop-k.invariant.1, c.loop-k.invariant.2, c.loop-k.invariant.3, over-next (number_at c.args.values.now) _ _ _ _ _ (shaped-lined c.requires c.loop-k.invariant.3) (search rules) c.loop-k.invariant.1 _ c.loop-k.invariant.4 _ _ c.loop-k-test.true c.from-in-loop-k.ensures refl c.if-values-from.false)

pub returns : goal.returns
returns c = over-symbol c.requires _ _ _ _ c.loop-k.invariant.3 (symbol-same _ _ _ _ c.loop-k.invariant.2 (over_done (number_at c.args.values.now) _ _ _ _ _ (shaped-lined c.requires c.loop-k.invariant.3) (search rules) c.loop-k.invariant.1 _ c.loop-k.invariant.4 c.loop-k-test.false))
