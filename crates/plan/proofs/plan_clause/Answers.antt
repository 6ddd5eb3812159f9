-- `plan::plan_clause` meets its contract.
-- Assumes nothing.
use Rattle.columns.proofs.Deciding.{decides_not}
use Rattle.plan.specs.Plans.{fits, unfits}
use Rattle.plan.proofs.plan_clause.Goals as goal

pub returns-then-not-fit_clause : goal.returns-then-not-fit_clause
returns-then-not-fit_clause c = unfits (decides_not c.fit_clause.ensures.fit c.if-not-fit_clause.true)

pub planned-requires : goal.planned-requires
planned-requires c = record { fit_clause = c.fit_clause.ensures.fit.holds c.if-not-fit_clause.false; written = c.fit_clause.ensures.laid c.if-not-fit_clause.false }

pub returns : goal.returns
returns c = fits (c.fit_clause.ensures.fit.holds c.if-not-fit_clause.false) c.planned.ensures
