-- `mates::join_row` meets its contract.
-- Assumes nothing.
use Rattle.closing.proofs.Chains.{joined-none, joined-mate}
use Rattle.closing.proofs.mates.join_row.Goals as goal

pub returns-in-Some : goal.returns-in-Some
returns-in-Some c = joined-mate _ _ _ _ _ _ _ _ c.mate.ensures c.in-Some.is c.unite.ensures

pub returns-in_default : goal.returns-in_default
returns-in_default c = joined-none _ _ _ _ _ _ c.mate.ensures c.in_default.is
