-- `grounds_lines::lines::put_end` meets its contract: the fields are those of the literal's place.
-- Assumes nothing.
use Rattle.grounds_lines.proofs.Frames.{mine}
use Rattle.grounds_lines.proofs.lines.put_end.Goals as goal

pub returns : goal.returns
returns c = search mine
