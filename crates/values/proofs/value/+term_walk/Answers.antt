use mathlib.Core.Path.{sym, ◌∙◌}
use borrow.Author.Tests.{eqb-true, eqb-false}
use Rattle.meaning.specs.Equality.{rep_at}
use Rattle.values.proofs.Reading.{term-list, term-variable, term-symbol, term-read, rule-few, rule-earlier, rule-long, walk_end, walk_more}
use borrow.Author.Rules.{rules}
use native.Mathlib.Omega.{arith}
use Rattle.values.proofs.value.+term_walk.Goals as goal

pub term-offset_bounds-values-row : goal.term-offset_bounds-values-row
term-offset_bounds-values-row t c = omega (arith, c.requires.row_le_fresh.0, c.requires.row_le_fresh.1, c.requires.asked.rule.few)

pub term-bounds-values-row : goal.term-bounds-values-row
term-bounds-values-row t c = omega (arith, c.requires.row_le_fresh.0, c.requires.row_le_fresh.1, c.requires.asked.rule.few)

pub term-returns-then-row-fresh : goal.term-returns-then-row-fresh
term-returns-then-row-fresh t c = term-list _ (rep_at c.args.reading.now.ledger.table.now) _ _ _ _ _ _ _ _ _ _ _ c.if-row-fresh.true

pub term-is_variable-requires : goal.term-is_variable-requires
term-is_variable-requires t c = omega (arith, c.requires.row_le_fresh.0, c.requires.row_le_fresh.1, c.requires.asked.rule.few)

pub term-given-requires : goal.term-given-requires
term-given-requires t c = (omega (arith, c.requires.row_le_fresh.0, c.requires.row_le_fresh.1, c.requires.asked.rule.few), (c.requires.asked.rule.written.placed.each c.args.row (omega (arith, c.requires.row_le_fresh.0, c.requires.row_le_fresh.1))).variable (eqb-true _ 4 (sym c.is_variable.ensures ∙ c.if-is_variable.true)))

pub term-returns-then-is_variable : goal.term-returns-then-is_variable
term-returns-then-is_variable t c = term-variable _ (rep_at c.args.reading.now.ledger.table.now) _ _ _ _ _ _ _ _ _ _ _ _ c.if-row-fresh.false (omega (arith, c.requires.row_le_fresh.0, c.requires.row_le_fresh.1)) (eqb-true _ 4 (sym c.is_variable.ensures ∙ c.if-is_variable.true)) c.given.ensures

pub term-walk-w-requires : goal.term-walk-w-requires
term-walk-w-requires t c = (omega arith, (c.requires.asked, (c.requires.row_le_fresh.0, c.requires.row_le_fresh.1, omega arith, (eqb-false _ 4 (sym c.is_variable.ensures ∙ c.if-is_variable.false)))))

pub term-look-requires : goal.term-look-requires
term-look-requires t c = record { asked = c.requires.asked; row_lt_patterns = (omega (arith, c.requires.row_le_fresh.0, c.requires.row_le_fresh.1), (eqb-false _ 4 (sym c.is_variable.ensures ∙ c.if-is_variable.false))) }

pub term-returns : goal.term-returns
term-returns t c = term-symbol _ (rep_at c.args.reading.now.ledger.table.now) _ _ _ _ _ _ _ _ _ _ _ _ _ c.if-row-fresh.false (omega (arith, c.requires.row_le_fresh.0, c.requires.row_le_fresh.1)) (eqb-false _ 4 (sym c.is_variable.ensures ∙ c.if-is_variable.false)) c.walk-w.ensures c.look.ensures

pub walk-bounds-counts-row : goal.walk-bounds-counts-row
walk-bounds-counts-row t c = omega (arith, c.requires.row_le_fresh.0, c.requires.row_le_fresh.1, c.requires.asked.rule.few)

pub walk-returns-then-from-k : goal.walk-returns-then-from-k
walk-returns-then-from-k t c = walk_end c.args.reading.now.patterns.counts.now c.args.reading.now.patterns.args.now c.args.values.now c.args.row c.args.k (rule-long c.requires.asked.rule c.args.row (omega (arith, c.requires.row_le_fresh.0, c.requires.row_le_fresh.1)) c.requires.row_le_fresh.3) _ c.requires.row_le_fresh.2 (omega (arith, c.from.ensures, c.if-from-k.true))

pub walk-overflow_mul-row : goal.walk-overflow_mul-row
walk-overflow_mul-row t c = omega (arith, c.requires.row_le_fresh.0, c.requires.row_le_fresh.1, c.requires.asked.rule.few, rule-few c.requires.asked.rule c.args.row (omega (arith, c.requires.row_le_fresh.0, c.requires.row_le_fresh.1)) c.requires.row_le_fresh.3)

pub walk-overflow_add-row : goal.walk-overflow_add-row
walk-overflow_add-row t c = omega (arith, c.requires.row_le_fresh.0, c.requires.row_le_fresh.1, c.requires.asked.rule.few, rule-few c.requires.asked.rule c.args.row (omega (arith, c.requires.row_le_fresh.0, c.requires.row_le_fresh.1)) c.requires.row_le_fresh.3)

pub walk-offset_bounds-args-row : goal.walk-offset_bounds-args-row
walk-offset_bounds-args-row t c = omega (arith, c.requires.row_le_fresh.0, c.requires.row_le_fresh.1, c.requires.asked.rule.few, rule-few c.requires.asked.rule c.args.row (omega (arith, c.requires.row_le_fresh.0, c.requires.row_le_fresh.1)) c.requires.row_le_fresh.3)

pub walk-bounds-args-row : goal.walk-bounds-args-row
walk-bounds-args-row t c = omega (arith, c.requires.row_le_fresh.0, c.requires.row_le_fresh.1, c.requires.asked.rule.few, rule-few c.requires.asked.rule c.args.row (omega (arith, c.requires.row_le_fresh.0, c.requires.row_le_fresh.1)) c.requires.row_le_fresh.3)

pub walk-term-v-requires : goal.walk-term-v-requires
walk-term-v-requires t c = (omega (arith, c.requires.row_le_fresh.0, c.requires.row_le_fresh.1, rule-few c.requires.asked.rule c.args.row (omega (arith, c.requires.row_le_fresh.0, c.requires.row_le_fresh.1)) c.requires.row_le_fresh.3, c.from-a.ensures, rule-earlier c.requires.asked.rule c.args.row (omega (arith, c.requires.row_le_fresh.0, c.requires.row_le_fresh.1)) c.requires.row_le_fresh.3 c.args.k (omega (arith, c.from.ensures, c.if-from-k.false))), (c.requires.asked, (omega (arith, c.requires.row_le_fresh.0, c.requires.row_le_fresh.1, rule-few c.requires.asked.rule c.args.row (omega (arith, c.requires.row_le_fresh.0, c.requires.row_le_fresh.1)) c.requires.row_le_fresh.3, c.from-a.ensures, rule-earlier c.requires.asked.rule c.args.row (omega (arith, c.requires.row_le_fresh.0, c.requires.row_le_fresh.1)) c.requires.row_le_fresh.3 c.args.k (omega (arith, c.from.ensures, c.if-from-k.false))), c.requires.row_le_fresh.1)))

pub walk-offset_bounds-w-k : goal.walk-offset_bounds-w-k
walk-offset_bounds-w-k t c = omega (arith, c.requires.row_le_fresh.0, c.requires.row_le_fresh.1, c.requires.asked.rule.few, rule-few c.requires.asked.rule c.args.row (omega (arith, c.requires.row_le_fresh.0, c.requires.row_le_fresh.1)) c.requires.row_le_fresh.3)

pub walk-bounds-w-k : goal.walk-bounds-w-k
walk-bounds-w-k t c = omega (arith, c.requires.row_le_fresh.0, c.requires.row_le_fresh.1, c.requires.asked.rule.few, rule-few c.requires.asked.rule c.args.row (omega (arith, c.requires.row_le_fresh.0, c.requires.row_le_fresh.1)) c.requires.row_le_fresh.3)

pub walk-overflow_add-k : goal.walk-overflow_add-k
walk-overflow_add-k t c = omega (arith, c.requires.row_le_fresh.0, c.requires.row_le_fresh.1, c.requires.asked.rule.few, rule-few c.requires.asked.rule c.args.row (omega (arith, c.requires.row_le_fresh.0, c.requires.row_le_fresh.1)) c.requires.row_le_fresh.3)

pub walk-walk-requires : goal.walk-walk-requires
walk-walk-requires t c = (omega (arith, c.from.ensures, c.if-from-k.false, rule-few c.requires.asked.rule c.args.row (omega (arith, c.requires.row_le_fresh.0, c.requires.row_le_fresh.1)) c.requires.row_le_fresh.3), (c.requires.asked, (c.requires.row_le_fresh.0, c.requires.row_le_fresh.1, omega (arith, c.from.ensures, c.if-from-k.false), c.requires.row_le_fresh.3)))

pub walk-returns : goal.walk-returns
walk-returns t c = walk_more c.args.reading.now.patterns.counts.now c.args.reading.now.patterns.args.now c.args.values.now c.args.row c.args.k (rule-long c.requires.asked.rule c.args.row (omega (arith, c.requires.row_le_fresh.0, c.requires.row_le_fresh.1)) c.requires.row_le_fresh.3) c.args.done _ _ _ (search rules) (omega (arith, c.from.ensures, c.if-from-k.false, rule-few c.requires.asked.rule c.args.row (omega (arith, c.requires.row_le_fresh.0, c.requires.row_le_fresh.1)) c.requires.row_le_fresh.3)) (omega (arith, c.from.ensures, c.if-from-k.false)) c.from-a.ensures (term-read _ (rep_at c.args.reading.now.ledger.table.now) _ _ _ _ _ _ _ _ _ _ _ _ (omega (arith, c.requires.row_le_fresh.0, c.requires.row_le_fresh.1, rule-few c.requires.asked.rule c.args.row (omega (arith, c.requires.row_le_fresh.0, c.requires.row_le_fresh.1)) c.requires.row_le_fresh.3, c.from-a.ensures, rule-earlier c.requires.asked.rule c.args.row (omega (arith, c.requires.row_le_fresh.0, c.requires.row_le_fresh.1)) c.requires.row_le_fresh.3 c.args.k (omega (arith, c.from.ensures, c.if-from-k.false)))) c.term-v.ensures) c.walk.ensures
