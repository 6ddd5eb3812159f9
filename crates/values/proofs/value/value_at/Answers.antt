-- `values::value::value_at` meets its contract.
-- Assumes nothing.
use mathlib.Core.Path.{sym, ◌∙◌}
use borrow.Author.Tests.{eqb-true}
use Rattle.meaning.specs.Equality.{rep_at}
use Rattle.values.proofs.Reading.{term-variable}
use native.Mathlib.Omega.{arith}
use Rattle.values.proofs.value.value_at.Goals as goal

pub given-requires : goal.given-requires
given-requires c = (omega (arith, c.requires.row_lt_patterns, c.requires.asked.rule.few), (c.requires.asked.rule.written.placed.each c.args.row c.requires.row_lt_patterns).variable (eqb-true _ 4 (sym c.is_variable.ensures ∙ c.if-is_variable.true)))

pub returns-then-is_variable : goal.returns-then-is_variable
returns-then-is_variable c = term-variable _ (rep_at c.args.reading.now.ledger.table.now) _ _ _ _ _ _ _ _ _ _ _ _ (omega arith) c.requires.row_lt_patterns (eqb-true _ 4 (sym c.is_variable.ensures ∙ c.if-is_variable.true)) c.given.ensures

pub term-requires : goal.term-requires
term-requires c = record { asked = c.requires.asked; row_le_fresh = (omega arith, c.requires.row_lt_patterns) }
