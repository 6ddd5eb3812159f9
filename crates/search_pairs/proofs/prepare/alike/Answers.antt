use borrow.Author.Tests.{ne_eqb}
use Rattle.search_pairs.proofs.Preparing.{mine}
use Rattle.search_pairs.proofs.prepare.alike.Goals as goal

pub returns-else-symbol_in : goal.returns-else-symbol_in
returns-else-symbol_in c = rw (ne_eqb _ _ c.if-symbol_in.false) (search mine)
