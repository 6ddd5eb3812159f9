use Rattle.search_pairs.proofs.Turning.{blank-meets, going-turn, going-clash, going_less, going_step, going_done, mine}
use Rattle.search_pairs.proofs.Closed.follow.Goals as goal

pub meet-requires : goal.meet-requires
meet-requires c = blank-meets _ _ _ _ _ _ _ c.row_count-n.ensures c.requires.blank c.requires.ends c.requires.room

pub turn-requires : goal.turn-requires
turn-requires c = going-turn _ _ _ _ _ _ _ _ c.requires.ends c.loop-r.invariant _ c.requires.laid c.requires.inside c.requires.room c.in-Some.ensures

pub returns-then-turn : goal.returns-then-turn
returns-then-turn c = going-clash _ _ _ _ _ _ _ _ c.requires.ends c.loop-r.invariant _ _ _ c.turn.ensures c.if-turn.true

pub loop-r-smaller : goal.loop-r-smaller
loop-r-smaller c = going_less _ _ _ _ _ _ _ _ c.requires.ends c.loop-r.invariant _ _ _ c.turn.ensures c.if-turn.false

pub loop-r-preserved : goal.loop-r-preserved
loop-r-preserved c = going_step _ _ _ _ _ _ _ _ c.requires.ends c.loop-r.invariant _ _ _ c.requires.inside c.turn.ensures c.if-turn.false

pub returns : goal.returns
returns c = going_done _ _ _ _ _ _ _ _ c.requires.ends c.loop-r.invariant c.in_default.ensures

pub returns-then-meet : goal.returns-then-meet
returns-then-meet c = search mine

pub loop-r-init : goal.loop-r-init
loop-r-init c = search mine
