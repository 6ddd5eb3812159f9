-- `rule` meets its contract: what was read and closed is ruled on, the refusals in their order.
-- Assumes nothing.
use Rattle.ruling.proofs.Ruling.{mine}
use Rattle.ruling.proofs.rule.Goals as goal

pub answer_for-answer-requires : goal.answer_for-answer-requires
answer_for-answer-requires c = search mine

pub returns : goal.returns
returns c = search mine
