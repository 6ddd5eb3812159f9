-- `values::value::look` meets its contract.
-- Assumes nothing.
use Rattle.meaning.specs.Equality.{rep_at}
use Rattle.values.proofs.Reading.{look-held, look-met, rule-few}
use native.Mathlib.Omega.{arith}
use Rattle.values.proofs.value.look.Goals as goal

pub held-requires : goal.held-requires
held-requires c = record { ledger_fit = c.requires.asked.ledger; count_bound = omega (arith, c.from-n.ensures, rule-few c.requires.asked.rule _ c.requires.row_lt_patterns.0 c.requires.row_lt_patterns.1) }

pub returns-in-Some : goal.returns-in-Some
returns-in-Some c = look-held _ (rep_at c.args.reading.now.ledger.table.now) _ _ _ _ _ _ _ _ _ c.from-n.ensures c.held.ensures _ _ c.in-Some.is c.from.ensures

pub own-requires : goal.own-requires
own-requires c = omega (arith, c.requires.row_lt_patterns.0, c.requires.asked.rule.few)

pub met-requires : goal.met-requires
met-requires c = record { rule_fit = c.requires.asked.rule; listed = c.requires.asked.listed; count_bound = omega (arith, c.from-n.ensures, rule-few c.requires.asked.rule _ c.requires.row_lt_patterns.0 c.requires.row_lt_patterns.1) }

pub returns-in-None : goal.returns-in-None
returns-in-None c = look-met _ (rep_at c.args.reading.now.ledger.table.now) _ _ _ _ _ _ _ _ _ c.from-n.ensures c.held.ensures _ _ c.in-None.is c.own.ensures c.met.ensures
