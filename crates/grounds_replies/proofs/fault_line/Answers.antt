-- `grounds_replies::fault_line` meets its contract. Each way out is one fault.
-- Assumes nothing.
use Rattle.grounds_replies.proofs.Ways.{mine}
use Rattle.grounds_replies.proofs.fault_line.Goals as goal

pub returns-in-Unassigned : goal.returns-in-Unassigned
returns-in-Unassigned c = search mine

pub returns-in-Bad : goal.returns-in-Bad
returns-in-Bad c = search mine

pub returns-in-Unconcluded : goal.returns-in-Unconcluded
returns-in-Unconcluded c = search mine
