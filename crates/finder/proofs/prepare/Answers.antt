-- `prepare` meets its contract: what was read is laid out, or its refusal is handed on.
-- Assumes nothing.
use Rattle.finder.proofs.Judging.{mine}
use Rattle.finder.proofs.prepare.Goals as goal

pub lay-requires-clause-filled : goal.lay-requires-clause-filled
lay-requires-clause-filled c = search mine

pub lay-requires-clause-ready : goal.lay-requires-clause-ready
lay-requires-clause-ready c = search mine
