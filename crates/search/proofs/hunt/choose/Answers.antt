-- `search::hunt::choose` meets its contract.
-- Assumes nothing.
use Rattle.search.proofs.hunt.choose.Goals as goal

pub returns : goal.returns
returns c = cc c.from.ensures
