-- `listing::opening::open` meets its contract: what was read and ruled on, laid out, with the line and the state of its answer.
-- Assumes nothing.
use Rattle.listing.proofs.Output.{mine}
use Rattle.listing.proofs.opening.open.Goals as goal

pub lay-laid-requires-clause-filled : goal.lay-laid-requires-clause-filled
lay-laid-requires-clause-filled c = search mine

pub lay-laid-requires-clause-ready : goal.lay-laid-requires-clause-ready
lay-laid-requires-clause-ready c = search mine

pub returns : goal.returns
returns c = search mine
