-- `search_plan::plan_clause` meets its contract.
-- Assumes nothing.
use borrow.Author.Rules.{rules}
use Rattle.runs.proofs.Deciding.{decides_not}
use Rattle.search_plan.specs.Plans.{unfits}
use Rattle.search_plan.proofs.Planning.{plan-fits}
use Rattle.search_plan.proofs.plan_clause.Goals as goal

pub fit_clause-requires : goal.fit_clause-requires
fit_clause-requires c = search rules

pub returns-then-not-fit_clause : goal.returns-then-not-fit_clause
returns-then-not-fit_clause c = record { plans = unfits (decides_not c.fit_clause.ensures.fit c.if-not-fit_clause.true) }

pub planned-requires : goal.planned-requires
planned-requires c = c.fit_clause.ensures.fit.holds c.if-not-fit_clause.false

pub returns : goal.returns
returns c = record { plans = plan-fits _ _ _ c.planned.ensures (c.fit_clause.ensures.fit.holds c.if-not-fit_clause.false) }
