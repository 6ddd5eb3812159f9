-- `closing::mates::agree` meets its contract. The ways are two symbols, two counts, and the arguments compared.
-- Assumes nothing.
use Rattle.closing.proofs.Rows.{mine}
use Rattle.closing.proofs.mates.agree.Goals as goal

pub returns-then-terms-i : goal.returns-then-terms-i
returns-then-terms-i c = search mine

pub returns-then-terms-i-2 : goal.returns-then-terms-i-2
returns-then-terms-i-2 c = search mine

pub returns : goal.returns
returns c = search mine
