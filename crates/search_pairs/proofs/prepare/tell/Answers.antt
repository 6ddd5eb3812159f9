-- `search_pairs::prepare::tell` meets its contract. An equation says nothing of what is kept apart; a difference keeps its sides apart.
-- Assumes nothing.
use Rattle.search_pairs.proofs.Preparing.{mine}
use Rattle.search_pairs.proofs.prepare.tell.Goals as goal

pub returns-then-is_equation : goal.returns-then-is_equation
returns-then-is_equation c = search mine

pub returns : goal.returns
returns c = search mine
