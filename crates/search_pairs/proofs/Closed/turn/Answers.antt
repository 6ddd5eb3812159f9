use Rattle.search_pairs.proofs.Turning.{turn-none, turn-meets, turn-met}
use Rattle.search_pairs.proofs.Closed.turn.Goals as goal

pub mate-requires : goal.mate-requires
mate-requires c = record { laid = c.requires.rows-laid; rows_in_bounds = c.requires.room; space = c.requires.space; labelled = c.requires.laid; inside = c.requires.inside; r_bound = c.requires.row }

pub returns-in_default : goal.returns-in_default
returns-in_default c = turn-none _ _ _ _ _ _ c.requires.space c.requires.laid c.requires.row c.in_default.ensures _ c.requires.marked c.remove.ensures

pub meet-requires : goal.meet-requires
meet-requires c = turn-meets _ _ _ _ _ _ _ c.requires.space c.requires.laid c.requires.row c.in-Some.ensures _ _ _ c.requires.inside c.requires.room c.row_count-n.ensures c.label-x.ensures c.label-y.ensures

pub returns : goal.returns
returns c = turn-met _ _ _ _ _ _ _ c.requires.space c.requires.laid c.requires.row c.in-Some.ensures _ _ _ _ _ _ c.requires.inside c.row_count-n.ensures c.label-x.ensures c.label-y.ensures c.meet.ensures
