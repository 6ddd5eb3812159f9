use mathlib.Core.Path.{ap, refl, ◌∙◌}
use Rattle.meaning.specs.Equality.{rep_at}
use Rattle.columns.specs.Lent.{rows_in, patterns_in, literals_in, context_in}
use Rattle.meaning.specs.Following.{differ_by}
use Rattle.search.specs.Hunting.{rows_of, answer_of}
use Rattle.search.proofs.Hunting.{trying_start, trying-other, trying-found, trying-next, trying-done, enter-dead, enter-live, planned-listed, planned-rises, chosen-next, hunt-leaf, attempt-enter}
use native.Mathlib.Omega.{arith}
use Rattle.search.proofs.hunt.+enter_seek.Goals as goal

pub enter-bounds-ends-j : goal.enter-bounds-ends-j
enter-bounds-ends-j t c = omega (arith, c.from-j.ensures, c.requires.k_le_variables.0, c.requires.hunting.few)

pub enter-overflow_add-j : goal.enter-overflow_add-j
enter-overflow_add-j t c = omega (arith, c.from-j.ensures, c.requires.k_le_variables.0, c.requires.hunting.few)

pub enter-bounds-ends-j-2 : goal.enter-bounds-ends-j-2
enter-bounds-ends-j-2 t c = omega (arith, c.from-j.ensures, c.requires.k_le_variables.0, c.requires.hunting.few)

pub enter-read-v-requires : goal.enter-read-v-requires
enter-read-v-requires t c = record { asked = record { ledger = c.requires.hunting.ledger; rule = c.requires.hunting.rule; listed = planned-listed c.requires.hunting.planned _ _ _ c.from-j.ensures (omega (arith, c.requires.k_le_variables.0, c.requires.hunting.few)) c.from-2.ensures }; from_le_to = planned-rises c.requires.hunting.planned _ _ _ _ c.from-j.ensures (omega (arith, c.requires.k_le_variables.0, c.requires.hunting.few)) c.from.ensures c.from-2.ensures }

pub enter-all_pass-requires : goal.enter-all_pass-requires
enter-all_pass-requires t c = record { closed_by = c.requires.closed_by; knows = c.requires.knows; tested = c.requires.hunting.tested }

pub enter-returns-then-not-all_pass : goal.enter-returns-then-not-all_pass
enter-returns-then-not-all_pass t c =
    record { value = c.clear.ensures ∙ ap answer_of (enter-dead (rows_in c.args.hunt.now.reading.ledger.terms) (rep_at c.args.hunt.now.reading.ledger.table.now) (patterns_in c.args.hunt.now.reading.patterns) c.args.hunt.now.reading.order.now c.args.hunt.now.ends.now (differ_by (context_in c.args.hunt.now.classed.context)) c.args.hunt.now.levels.now (literals_in c.args.hunt.now.literals) (rows_of (rep_at c.args.hunt.now.reading.ledger.table.now) c.args.hunt.now.reading.ledger.terms.rows c.args.hunt.now.free c.args.hunt.now.from) _ c.args.k c.args.chosen c.args.values.now _ _ _ _ _ c.from-j.ensures c.from.ensures c.from-2.ensures c.read-v.ensures c.all_pass.ensures.value c.if-not-all_pass.true); knows_2 = c.all_pass.ensures.knows_2 }

pub enter-seek-requires : goal.enter-seek-requires
enter-seek-requires t c =
    (omega arith, (c.requires.hunting, (c.requires.k_le_variables, (c.requires.closed_by, c.all_pass.ensures.knows_2))))

pub enter-returns : goal.enter-returns
enter-returns t c =
    record { value = c.seek.ensures.value ∙ ap answer_of (enter-live (rows_in c.args.hunt.now.reading.ledger.terms) (rep_at c.args.hunt.now.reading.ledger.table.now) (patterns_in c.args.hunt.now.reading.patterns) c.args.hunt.now.reading.order.now c.args.hunt.now.ends.now (differ_by (context_in c.args.hunt.now.classed.context)) c.args.hunt.now.levels.now (literals_in c.args.hunt.now.literals) (rows_of (rep_at c.args.hunt.now.reading.ledger.table.now) c.args.hunt.now.reading.ledger.terms.rows c.args.hunt.now.free c.args.hunt.now.from) _ c.args.k c.args.chosen c.args.values.now _ _ _ _ _ c.from-j.ensures c.from.ensures c.from-2.ensures c.read-v.ensures c.all_pass.ensures.value c.if-not-all_pass.false); knows_2 = c.seek.ensures.knows_2 }

pub seek-breach-requires : goal.seek-breach-requires
seek-breach-requires t c = (omega (arith, c.requires.k_le_variables.0, c.requires.hunting.few), c.requires.k_le_variables.1)

pub seek-returns-then-variables-k : goal.seek-returns-then-variables-k
seek-returns-then-variables-k t c = record { value = c.breach.ensures ∙ ap answer_of (hunt-leaf _ _ _ _ _ _ _ c.if-variables-k.true); knows_2 = c.requires.knows }

pub seek-bounds-free-from : goal.seek-bounds-free-from
seek-bounds-free-from t c = omega (arith, c.from.ensures, c.if-variables-k.false, c.requires.hunting.few)

pub seek-begins-i-requires : goal.seek-begins-i-requires
seek-begins-i-requires t c = omega (arith, c.if-variables-k.false, c.requires.hunting.few)

pub seek-loop-i-init : goal.seek-loop-i-init
seek-loop-i-init t c =
    (c.if-variables-k.false, c.requires.knows, trying_start _ _ (rep_at c.args.hunt.now.reading.ledger.table.now) _ _ _ _ _ _ _ _ _ _ c.if-variables-k.false c.from.ensures refl c.begins-i.ensures)

pub seek-overflow_add-k : goal.seek-overflow_add-k
seek-overflow_add-k t c = omega (arith, c.loop-i.invariant.0, c.requires.hunting.few)

pub seek-choose-requires : goal.seek-choose-requires
seek-choose-requires t c = (omega (arith, c.loop-i.invariant.0, c.requires.hunting.few), omega (arith, c.loop-i-test.true, c.requires.hunting.ledger.few))

pub seek-enter-r-requires : goal.seek-enter-r-requires
seek-enter-r-requires t c =
    (omega (arith, c.loop-i.invariant.0), (c.requires.hunting, ((omega (arith, c.loop-i.invariant.0), rw c.choose.ensures (chosen-next _ _ _ (omega (arith, c.loop-i.invariant.0, c.requires.hunting.few)) c.requires.k_le_variables.1)), (c.requires.closed_by, c.loop-i.invariant.1))))

pub seek-returns-then-settled : goal.seek-returns-then-settled
seek-returns-then-settled t c =
    record { value = trying-found (rep_at c.args.hunt.now.reading.ledger.table.now) _ _ _ _ _ _ _ _ c.loop-i.invariant.2 c.loop-i-test.true c.from-in-loop-i.ensures c.if-from-i.false (attempt-enter _ _ _ _ _ _ _ _ _ _ c.choose.ensures c.enter-r.ensures.value) c.settled.ensures c.if-settled.true; knows_2 = c.enter-r.ensures.knows_2 }

pub seek-loop-i-preserved-then-from-i : goal.seek-loop-i-preserved-then-from-i
seek-loop-i-preserved-then-from-i t c =
    (c.loop-i.invariant.0, c.loop-i.invariant.1, trying-other (rep_at c.args.hunt.now.reading.ledger.table.now) _ _ _ _ _ _ c.loop-i.invariant.2 c.loop-i-test.true c.from-in-loop-i.ensures c.if-from-i.true)

pub seek-loop-i-preserved : goal.seek-loop-i-preserved
seek-loop-i-preserved t c =
    (c.loop-i.invariant.0, c.enter-r.ensures.knows_2, trying-next (rep_at c.args.hunt.now.reading.ledger.table.now) _ _ _ _ _ _ _ _ c.loop-i.invariant.2 c.loop-i-test.true c.from-in-loop-i.ensures c.if-from-i.false (attempt-enter _ _ _ _ _ _ _ _ _ _ c.choose.ensures c.enter-r.ensures.value) c.settled.ensures c.if-settled.false)

pub seek-returns : goal.seek-returns
seek-returns t c = record { value = c.clear.ensures ∙ ap answer_of (trying-done (rep_at c.args.hunt.now.reading.ledger.table.now) _ _ _ _ _ c.loop-i.invariant.2 c.loop-i-test.false); knows_2 = c.loop-i.invariant.1 }
