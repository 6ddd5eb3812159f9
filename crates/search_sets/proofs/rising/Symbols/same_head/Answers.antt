-- `search_sets::rising::Symbols::same_head` meets its contract.
-- Assumes nothing.
use borrow.Author.Tests.{ne_eqb}
use Rattle.search_sets.proofs.Symbols.{mine}
use Rattle.search_sets.proofs.rising.Symbols.same_head.Goals as goal

pub returns-else-symbol_in-head_in : goal.returns-else-symbol_in-head_in
returns-else-symbol_in-head_in c = rw (ne_eqb _ _ c.if-symbol_in-head_in.false) (search mine)
