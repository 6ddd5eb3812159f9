-- `grounds::piece` meets its contract: the bytes that `fill` used are the lines that come.
-- Assumes nothing.
use Rattle.grounds.proofs.Handing.{piece-comes}
use Rattle.grounds.proofs.piece.Goals as goal

pub hand-requires : goal.hand-requires
hand-requires g c = piece-comes _ _ _ _ _ _ _ c.fill-filled.ensures.fills
