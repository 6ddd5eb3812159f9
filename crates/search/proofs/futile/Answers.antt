-- `search::futile` meets its contract.
-- Assumes nothing.
use Rattle.search.proofs.Finding.{futile-not, futile-by}
use borrow.Author.Rules.{rules}
use Rattle.search.proofs.futile.Goals as goal

pub returns-then-never : goal.returns-then-never
returns-then-never c = futile-by c.args.table (λ i. search rules) _ _ _ c.clash.result _ c.if-never.true c.clash.ensures.clashes c.is_none.ensures

pub returns-else-never : goal.returns-else-never
returns-else-never c = futile-not c.args.table (λ i. search rules) _ _ _ c.if-never.false
