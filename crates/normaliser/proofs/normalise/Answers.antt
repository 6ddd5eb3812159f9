-- `normalise` meets its contract: the reader's refusal, then 9, then what is written.
-- Assumes nothing.
use Rattle.normaliser.proofs.Composed.{mine}
use Rattle.normaliser.proofs.normalise.Goals as goal

pub returns-in_err-told : goal.returns-in_err-told
returns-in_err-told c = search mine

pub contradicted-requires : goal.contradicted-requires
contradicted-requires c = search mine

pub returns-in-Some : goal.returns-in-Some
returns-in-Some c = search mine

pub rows-requires : goal.rows-requires
rows-requires c = search mine

pub said-requires : goal.said-requires
said-requires c = search mine

pub write_normal-requires : goal.write_normal-requires
write_normal-requires c = search mine

pub returns : goal.returns
returns c = search mine
