-- `search::find_with` meets its contract.
-- Assumes nothing.
use Rattle.columns.proofs.Deciding.{decides_not}
use Rattle.differing.proofs.Knowing.{lends-closed}
use Rattle.search.proofs.Finding.{plans-unfit, ready, finds, finds-none, finds-unfit}
use Rattle.search.proofs.find_with.Goals as goal

pub returns-then-not-fit_context : goal.returns-then-not-fit_context
returns-then-not-fit_context c = record { finds_in = finds-unfit (λ f g. decides_not c.fit_context.ensures.fit c.if-not-fit_context.true f) _ c.unfit.ensures; knows_2 = c.requires.knows }

pub returns-in_default : goal.returns-in_default
returns-in_default c = record { finds_in = finds-unfit (λ f g. plans-unfit c.plan_clause.ensures c.in_default.is g) _ c.unfit-in_default.ensures; knows_2 = c.requires.knows }

pub returns-then-futile : goal.returns-then-futile
returns-then-futile c =
    let h = c.if-not-fit_context.false in
    let f = c.fit_context.ensures.fit.holds h in
    record { finds_in = finds-none f (c.fit_context.ensures.laid h) c.plan_clause.ensures c.in-Some.is c.args.table.now c.args.classed.now.closed.now _ (lends-closed _ _ _ _ _ _ _ _ _ _ c.requires.lends f (c.fit_context.ensures.laid h)) _ c.futile.ensures _ c.if-futile.true c.clear.ensures; knows_2 = c.requires.knows }

pub start-requires : goal.start-requires
start-requires c =
    let h = c.if-not-fit_context.false in
    let f = c.fit_context.ensures.fit.holds h in
    record { ready = ready f (c.fit_context.ensures.laid h) c.plan_clause.ensures c.in-Some.is; closed_by = lends-closed _ _ _ _ _ _ _ _ _ _ c.requires.lends f (c.fit_context.ensures.laid h); knows = c.requires.knows }

pub returns : goal.returns
returns c =
    let h = c.if-not-fit_context.false in
    let f = c.fit_context.ensures.fit.holds h in
    record { finds_in = finds f (c.fit_context.ensures.laid h) c.plan_clause.ensures c.in-Some.is c.args.table.now c.args.classed.now.closed.now _ (lends-closed _ _ _ _ _ _ _ _ _ _ c.requires.lends f (c.fit_context.ensures.laid h)) _ c.futile.ensures _ c.start.ensures.value; knows_2 = c.start.ensures.knows_2 }
