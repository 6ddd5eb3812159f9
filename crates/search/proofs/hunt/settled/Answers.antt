-- `search::hunt::settled` meets its contract.
-- Assumes nothing.
use Rattle.search.proofs.Hunting.{settled-left}
use Rattle.search.proofs.hunt.settled.Goals as goal

pub returns-else-is_breach : goal.returns-else-is_breach
returns-else-is_breach c = settled-left _ _ _ c.is_breach.ensures c.if-is_breach.false
