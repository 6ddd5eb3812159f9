-- `normalise::answer` meets its contract: the two parts stand at the front of their spaces.
-- Assumes nothing.
use Rattle.normalise.proofs.Handing.{mine}
use Rattle.normalise.proofs.answer.Goals as goal

pub slice_bounds-space-end : goal.slice_bounds-space-end
slice_bounds-space-end g c = search mine

pub hand-requires : goal.hand-requires
hand-requires g c = search mine
