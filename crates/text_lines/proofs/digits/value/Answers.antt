-- `digits::value` meets its contract: the look-up's value, or 255, is what the rule says.
-- Assumes nothing.
use Rattle.text_lines.proofs.Formula.{mine}
use Rattle.text_lines.proofs.digits.value.Goals as goal

pub returns : goal.returns
returns c = search mine
