-- `kinds::kind_of` meets its contract: a law for each kind, and one for none.
-- Assumes nothing.
use Rattle.text_reader.proofs.Kinded.{mine}
use Rattle.text_reader.proofs.kinds.kind_of.Goals as goal

pub returns-in-1 : goal.returns-in-1
returns-in-1 c = search mine

pub returns-in-2 : goal.returns-in-2
returns-in-2 c = search mine

pub returns-in-3 : goal.returns-in-3
returns-in-3 c = search mine

pub returns-in-4 : goal.returns-in-4
returns-in-4 c = search mine

pub returns-in-5 : goal.returns-in-5
returns-in-5 c = search mine

pub returns-in-6 : goal.returns-in-6
returns-in-6 c = search mine

pub returns-in-7 : goal.returns-in-7
returns-in-7 c = search mine

pub returns-in_default : goal.returns-in_default
returns-in_default c = search mine
