-- `search_pairs::Closed::ask` meets its contract. A number that is no row; else the classes of the two rows.
-- Assumes nothing.
use Rattle.search_pairs.proofs.Recalling.{asks}
use Rattle.search_pairs.proofs.Closed.ask.Goals.{then-n-a-via-then-n-a, then-n-a-via-else-n-a+then-n-b}
use Rattle.search_pairs.proofs.Closed.ask.Goals as goal

pub returns-then-n-a : goal.returns-then-n-a
returns-then-n-a c =
    elim c.then-n-a.branch [
      | then-n-a-via-then-n-a w ↦ let h = w.if-n-a.true in search asks
      | then-n-a-via-else-n-a+then-n-b w ↦ let h = w.if-n-b.true in search asks
    ]

pub returns : goal.returns
returns c = search asks
