-- `kinds::size_of` meets its contract: a law for each kind.
-- Assumes nothing.
use Rattle.text_reader.proofs.Kinded.{mine}
use Rattle.text_reader.proofs.kinds.size_of.Goals as goal

pub returns-in-ContextRow : goal.returns-in-ContextRow
returns-in-ContextRow c = search mine

pub returns-in-VariablePattern : goal.returns-in-VariablePattern
returns-in-VariablePattern c = search mine

pub returns-in-Equation : goal.returns-in-Equation
returns-in-Equation c = search mine
