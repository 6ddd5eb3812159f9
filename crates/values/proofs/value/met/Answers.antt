use Rattle.values.proofs.Reading.{meeting-start, meeting-next, meeting-found, meeting-ends, pattern-row, rule-shaped}
use native.Mathlib.Omega.{arith}
use Rattle.values.proofs.value.met.Goals as goal

pub loop-j-init : goal.loop-j-init
loop-j-init c = meeting-start

pub bounds-order-j : goal.bounds-order-j
bounds-order-j c = omega (arith, c.requires.listed.short)

pub over-requires : goal.over-requires
over-requires c = rule-shaped c.requires.rule_fit _ _ (omega (arith, c.requires.listed.rows _ c.loop-j-test.true)) c.requires.count_bound

pub offset_bounds-values-q : goal.offset_bounds-values-q
offset_bounds-values-q c = omega (arith, c.requires.listed.rows _ c.loop-j-test.true, c.requires.rule_fit.few)

pub bounds-values-q : goal.bounds-values-q
bounds-values-q c = omega (arith, c.requires.listed.rows _ c.loop-j-test.true, c.requires.rule_fit.few)

pub returns-then-over : goal.returns-then-over
returns-then-over c = meeting-found c.loop-j.invariant _ _ _ c.loop-j-test.true c.requires.listed.long c.from-q.ensures (pattern-row c.args.reading.now.patterns.kinds.now c.args.reading.now.patterns.heads.now c.args.reading.now.patterns.counts.now c.args.reading.now.patterns.args.now c.args.reading.now.patterns.rows c.from-q.result (omega (arith, c.requires.listed.rows _ c.loop-j-test.true))) c.over.ensures c.if-over.true

pub loop-j-preserved : goal.loop-j-preserved
loop-j-preserved c = meeting-next c.loop-j.invariant _ _ _ c.loop-j-test.true c.requires.listed.long c.from-q.ensures (pattern-row c.args.reading.now.patterns.kinds.now c.args.reading.now.patterns.heads.now c.args.reading.now.patterns.counts.now c.args.reading.now.patterns.args.now c.args.reading.now.patterns.rows c.from-q.result (omega (arith, c.requires.listed.rows _ c.loop-j-test.true))) c.over.ensures c.if-over.false

pub returns : goal.returns
returns c = meeting-ends c.loop-j.invariant c.loop-j-test.false
