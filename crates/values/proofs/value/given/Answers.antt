-- `values::value::given` meets its contract.
-- Assumes nothing.
use Rattle.values.proofs.value.given.Goals as goal

pub returns : goal.returns
returns c = cc (c.from.ensures, c.from-v.ensures)
