-- `further::busy::mark_statement` meets its contract. An equation marks nothing, and a difference its two sides, one after the other.
-- Assumes nothing.
use Rattle.further.proofs.Raising.{mine}
use Rattle.further.proofs.busy.mark_statement.Goals as goal

pub returns-then-is_equation : goal.returns-then-is_equation
returns-then-is_equation c = search mine

pub returns : goal.returns
returns c = search mine
