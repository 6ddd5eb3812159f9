-- `search::next_with` meets its contract.
-- Assumes nothing.
use Rattle.columns.proofs.Deciding.{decides_not}
use Rattle.differing.proofs.Knowing.{lends-closed}
use Rattle.search.proofs.Finding.{plans-unfit, ready, later-asks, nexts, nexts-none, nexts-unfit}
use Rattle.search.proofs.next_with.Goals as goal

pub returns-then-not-fit_context : goal.returns-then-not-fit_context
returns-then-not-fit_context c = record { next_in = nexts-unfit (λ f g. decides_not c.fit_context.ensures.fit c.if-not-fit_context.true f) _ c.unfit.ensures _; knows_2 = c.requires.knows }

pub returns-in_default : goal.returns-in_default
returns-in_default c = record { next_in = nexts-unfit (λ f g. plans-unfit c.plan_clause.ensures c.in_default.is g) _ c.unfit-in_default.ensures _; knows_2 = c.requires.knows }

pub returns-then-p-eq0 : goal.returns-then-p-eq0
returns-then-p-eq0 c =
    let h = c.if-not-fit_context.false in
    record { next_in = nexts-none (c.fit_context.ensures.fit.holds h) (c.fit_context.ensures.laid h) c.plan_clause.ensures c.in-Some.is c.args.table.now _ _ c.if-p-eq0.true c.clear.ensures; knows_2 = c.requires.knows }

pub later-from-requires : goal.later-from-requires
later-from-requires c =
    let h = c.if-not-fit_context.false in
    later-asks (c.fit_context.ensures.fit.holds h) (c.fit_context.ensures.laid h) c.plan_clause.ensures c.in-Some.is c.if-p-eq0.false

pub start-requires : goal.start-requires
start-requires c =
    let h = c.if-not-fit_context.false in
    let f = c.fit_context.ensures.fit.holds h in
    record { ready = ready f (c.fit_context.ensures.laid h) c.plan_clause.ensures c.in-Some.is; closed_by = lends-closed _ _ _ _ _ _ _ _ _ _ c.requires.lends f (c.fit_context.ensures.laid h); knows = c.requires.knows }

pub returns : goal.returns
returns c =
    let h = c.if-not-fit_context.false in
    record { next_in = nexts (c.fit_context.ensures.fit.holds h) (c.fit_context.ensures.laid h) c.plan_clause.ensures c.in-Some.is c.args.table.now _ _ _ c.later-from.ensures.1 c.if-p-eq0.false c.later-from.ensures.0 c.start.ensures.value; knows_2 = c.start.ensures.knows_2 }
