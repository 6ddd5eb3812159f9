-- `entries::entry_of` meets its contract: a law for each kind.
-- Assumes nothing.
use Rattle.text_reader.proofs.Entering.{ways}
use Rattle.text_reader.proofs.entries.entry_of.Goals as goal

pub returns-in-ContextRow : goal.returns-in-ContextRow
returns-in-ContextRow c = search ways

pub returns-in-Equation : goal.returns-in-Equation
returns-in-Equation c = search ways

pub returns-in-Difference : goal.returns-in-Difference
returns-in-Difference c = search ways

pub returns-in-VariablePattern : goal.returns-in-VariablePattern
returns-in-VariablePattern c = search ways

pub returns-in-SymbolPattern : goal.returns-in-SymbolPattern
returns-in-SymbolPattern c = search ways

pub returns-in-EqualLiteral : goal.returns-in-EqualLiteral
returns-in-EqualLiteral c = search ways

pub returns-in-UnequalLiteral : goal.returns-in-UnequalLiteral
returns-in-UnequalLiteral c = search ways
