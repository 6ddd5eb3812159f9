-- `grounds_lines::opening::open` meets its contract: refusal 11 first, and then the writer's answer with the line of its reply.
-- Assumes nothing.
use Rattle.grounds_lines.proofs.Output.{mine}
use Rattle.grounds_lines.proofs.opening.open.Goals as goal

pub returns-then-input-gt-INPUT_LIMIT : goal.returns-then-input-gt-INPUT_LIMIT
returns-then-input-gt-INPUT_LIMIT c = search mine

pub returns : goal.returns
returns c = search mine
