-- `search_pairs::Closed::ask_anew` meets its contract. A number that is no row; else the classes of the two rows.
-- Assumes nothing.
use Rattle.search_pairs.proofs.Asking.{mine}
use Rattle.search_pairs.proofs.Closed.ask_anew.Goals.{then-n-a-via-then-n-a, then-n-a-via-else-n-a+then-n-b}
use Rattle.search_pairs.proofs.Closed.ask_anew.Goals as goal

pub returns-then-n-a : goal.returns-then-n-a
returns-then-n-a c =
    elim c.then-n-a.branch [
      | then-n-a-via-then-n-a w ↦ let h = w.if-n-a.true in search mine
      | then-n-a-via-else-n-a+then-n-b w ↦ let h = w.if-n-b.true in search mine
    ]

pub returns : goal.returns
returns c = search mine
