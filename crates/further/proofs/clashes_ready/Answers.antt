-- `further::clashes_ready` meets its contract: a law for each way out.
-- Assumes nothing.
use Rattle.further.proofs.Wider.{mine}
use Rattle.further.proofs.clashes_ready.Goals as goal
use Rattle.further.proofs.clashes_ready.Goals.{then-rows-x-via-then-rows-x, then-rows-x-via-else-rows-x+then-rows-y}

pub returns-then-rows-x : goal.returns-then-rows-x
returns-then-rows-x c = elim c.then-rows-x.branch [ then-rows-x-via-then-rows-x w ↦ search mine | then-rows-x-via-else-rows-x+then-rows-y w ↦ search mine ]

pub returns-then-not-marked : goal.returns-then-not-marked
returns-then-not-marked c = search mine

pub returns-then-not-marked-2 : goal.returns-then-not-marked-2
returns-then-not-marked-2 c = search mine

pub returns-then-apart : goal.returns-then-apart
returns-then-apart c = search mine

pub returns : goal.returns
returns c = search mine
