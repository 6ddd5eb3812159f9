use mathlib.Core.Path.{refl, sym, ◌∙◌}
use Rattle.meaning.specs.Equality.{rep_at}
use Rattle.values.proofs.Reading.{read_next, read_done, listed-less}
use native.Mathlib.Omega.{arith}
use Rattle.values.proofs.value.read.Goals as goal

pub loop-j-init : goal.loop-j-init
loop-j-init c = (omega arith, c.requires.from_le_to, refl)

pub bounds-order-j : goal.bounds-order-j
bounds-order-j c = omega (arith, c.requires.asked.listed.short)

pub value_at-requires : goal.value_at-requires
value_at-requires c = record { asked = record { ledger = c.requires.asked.ledger; rule = c.requires.asked.rule; listed = listed-less c.requires.asked.listed _ c.loop-j.invariant.1 }; row_lt_patterns = omega (arith, c.from-row.ensures, c.requires.asked.listed.rows _ c.loop-j-test.true) }

pub offset_bounds-values-row : goal.offset_bounds-values-row
offset_bounds-values-row c = omega (arith, c.requires.asked.rule.few, c.from-row.ensures, c.requires.asked.listed.rows _ c.loop-j-test.true)

pub bounds-values-row : goal.bounds-values-row
bounds-values-row c = omega (arith, c.requires.asked.rule.few, c.from-row.ensures, c.requires.asked.listed.rows _ c.loop-j-test.true)

pub loop-j-preserved : goal.loop-j-preserved
loop-j-preserved c = (omega arith, omega arith, c.loop-j.invariant.2 ∙ read_next _ (rep_at c.args.reading.now.ledger.table.now) _ _ _ _ _ _ _ _ c.loop-j-test.true c.requires.asked.listed.long c.from-row.ensures c.value_at.ensures)

pub returns : goal.returns
returns c = read_done _ (rep_at c.args.reading.now.ledger.table.now) _ _ _ _ _ _ c.loop-j-test.false c.loop-j.invariant.1 ∙ sym c.loop-j.invariant.2
