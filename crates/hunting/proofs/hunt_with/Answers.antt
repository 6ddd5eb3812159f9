-- `hunt_with` meets its contract: the search is lent what it asks, and finds what is laid out well-formed.
-- Assumes nothing.
use Rattle.hunting.proofs.Laying.{lent, lent-knows, laid-knows, hunt-answers}
use Rattle.hunting.proofs.hunt_with.Goals as goal

pub find_with-requires : goal.find_with-requires
find_with-requires c =
    let s = c.requires.sound in
    let e = c.lent.ensures.lends in
    record { lends = lent _ s _ e; knows = lent-knows _ s _ e _ c.requires.knows }

pub returns : goal.returns
returns c =
    let s = c.requires.sound in
    let e = c.lent.ensures.lends in
    record { hunts = hunt-answers _ s _ e _ c.lent-rule.ensures.lends _ c.find_with.ensures.finds_in; knows = laid-knows _ s _ e _ c.find_with.ensures.knows_2 }
