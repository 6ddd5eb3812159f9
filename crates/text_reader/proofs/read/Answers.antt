-- `read` meets its contract: a refusal, or what was read.
-- Assumes nothing.
use Rattle.text_reader.proofs.Answering.{reads-taken, reads-refused}
use Rattle.text_reader.proofs.read.Goals as goal

pub returns-in-Ok : goal.returns-in-Ok
returns-in-Ok c = record { reads = reads-taken _ c.fill.new.pieces c.in-Ok.s c.in-Ok.ensures.ends _ c.filled.ensures }

pub returns-in-Err : goal.returns-in-Err
returns-in-Err c = record { reads = reads-refused _ c.fill.new.pieces c.in-Err.x c.in-Err.ensures.ends _ c.refused.ensures }
