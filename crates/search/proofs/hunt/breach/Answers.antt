-- `search::hunt::breach` meets its contract.
-- Assumes nothing.
use Rattle.search.proofs.Hunting.{breach-answer}
use Rattle.search.proofs.hunt.breach.Goals as goal

pub returns : goal.returns
returns c = breach-answer _ _ c.requires.0 c.requires.1
