-- `plan::planned` meets its contract.
-- Assumes nothing.
use Rattle.plan.proofs.Planning.{rule-fit, literals-named, plan-made}
use Rattle.plan.proofs.planned.Goals as goal

pub free-free-requires : goal.free-free-requires
free-free-requires c = record { rule_fit = rule-fit c.requires.fit_clause c.requires.written; named = literals-named c.requires.fit_clause }

pub returns : goal.returns
returns c = plan-made c.requires.fit_clause c.requires.written _ _ _ _ _ _ c.levels-levels.ensures c.arrange.ensures c.variables-variables.ensures c.free-free.ensures c.never-never.ensures
