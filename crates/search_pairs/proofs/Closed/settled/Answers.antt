-- `search_pairs::Closed::settled` meets its contract. Kept apart, not open, or tried.
-- Assumes nothing.
use borrow.Author.Rules.{rules}
use Rattle.search_pairs.proofs.Turning.{room_at}
use Rattle.search_pairs.proofs.Asking.{few-at, pair-at, classes-two, mine}
use Rattle.search_pairs.proofs.Closed.settled.Goals as goal

pub kept_apart-requires : goal.kept_apart-requires
kept_apart-requires c =
    record { n_bound = few-at _ _ c.row_count-n.ensures c.requires.laid.room; n_in_bounds = room_at _ _ _ c.row_count-n.ensures c.requires.room; x_lt_n = pair-at _ _ _ _ c.row_count-n.ensures (c.requires.left, c.requires.right) }

pub open-requires : goal.open-requires
open-requires c =
    record { n_bound = few-at _ _ c.row_count-n.ensures c.requires.laid.room; n_in_bounds = room_at _ _ _ c.row_count-n.ensures c.requires.room; x_lt_n = pair-at _ _ _ _ c.row_count-n.ensures (c.requires.left, c.requires.right) }

pub tried-requires : goal.tried-requires
tried-requires c = classes-two _ _ _ _ _ _ _ _ _ (search rules) c.«open».ensures c.if-not-open.false

pub returns-then-kept_apart : goal.returns-then-kept_apart
returns-then-kept_apart c = search mine

pub returns-then-not-open : goal.returns-then-not-open
returns-then-not-open c = search mine
