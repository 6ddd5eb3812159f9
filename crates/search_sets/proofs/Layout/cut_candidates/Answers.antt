-- `search_sets::Layout::cut_candidates` meets its contract. The ways are a row that is known and one that is not.
-- Assumes nothing.
use Rattle.search_sets.proofs.Variables.{cut-steps, cut-unknown, mine}
use Rattle.search_sets.proofs.Layout.cut_candidates.Goals.{then-marked, else-marked}
use Rattle.search_sets.proofs.Layout.cut_candidates.Goals as goal

pub meet-requires : goal.meet-requires
meet-requires c = search mine

pub returns : goal.returns
returns c =
    elim c.if-marked.branch [
      | then-marked w ↦ cut-steps _ _ _ _ _ _ _ _ _ _ _ (search mine) w.set_at.ensures c.set_at-at.ensures c.set_at-flags.ensures w.if-marked.true c.marked.ensures (rw w.sets-is w.meet.ensures) c.some.ensures
      | else-marked w ↦ rw w.sets-is (cut-unknown _ _ _ _ _ _ _ (search mine) c.set_at-at.ensures (rw w.sets-is at c.some.ensures))
    ]
