-- `entries::term_of` meets its contract: a law for each argument that fails, and one for none.
-- Assumes nothing.
use Rattle.text_lines.proofs.Ways.{mine}
use Rattle.text_lines.proofs.entries.term_of.Goals as goal

pub returns-in_err-argument : goal.returns-in_err-argument
returns-in_err-argument c = search mine

pub returns-in_err-argument-2 : goal.returns-in_err-argument-2
returns-in_err-argument-2 c = search mine

pub returns-in_err-argument-3 : goal.returns-in_err-argument-3
returns-in_err-argument-3 c = search mine

pub returns-in_err-argument-4 : goal.returns-in_err-argument-4
returns-in_err-argument-4 c = search mine

pub symbol_at-head-requires : goal.symbol_at-head-requires
symbol_at-head-requires c = search mine

pub returns : goal.returns
returns c = search mine
