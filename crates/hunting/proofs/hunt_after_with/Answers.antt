-- `hunt_after_with` meets its contract: the search is lent what it asks, and finds what is laid out well-formed.
-- Assumes nothing.
use Rattle.hunting.proofs.Laying.{lent, lent-knows, laid-knows, after-answers}
use Rattle.hunting.proofs.hunt_after_with.Goals as goal

pub next_with-requires : goal.next_with-requires
next_with-requires c =
    let s = c.requires.sound in
    let e = c.lent.ensures.lends in
    record { lends = lent _ s _ e; knows = lent-knows _ s _ e _ c.requires.knows }

pub returns : goal.returns
returns c =
    let s = c.requires.sound in
    let e = c.lent.ensures.lends in
    record { hunts = after-answers _ s _ e _ c.lent-rule.ensures.lends _ _ c.next_with.ensures.next_in; knows = laid-knows _ s _ e _ c.next_with.ensures.knows_2 }
