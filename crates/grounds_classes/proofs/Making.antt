-- The way from no steps to closed classes, as the code goes it.
--     mine   what `settle` and `close_further` leave to show
-- Assumes nothing.
use mathlib.Core.List.{List}
use mathlib.Core.Path.{◌≡◌, ap, ap₂, ◌∙◌}
use Prim.Native.Nat.{ℕ}
use borrow.Author.Rules.{rules}
use Rattle.runs.specs.Runs.{row_count}
use Rattle.grounds_numbers.specs.Pairs.{pairs_in}
use Rattle.grounds_laws.specs.Classes.{State, state_of}
use Rattle.grounds_laws.specs.Rounds.{started, added_pair, pair_joined, stated}
use Rattle.grounds_laws.specs.Concluding.{furthered}
use Rattle.grounds_classes.specs.declared.classes.Classes.{Classes}
use Rattle.grounds_classes.specs.Settling.{rested_by, settled_by, furthered_by}
use Rattle.grounds_classes.specs.Holding.{state_in, Becomes}

-- what the slices that were lent hold at the end
pub handed-back : (c : Classes) {cells table : List ℕ} {s : State} → cells ≡ c.cells.now → table ≡ c.table.now → state_in c ≡ s → state_of cells table ≡ s
handed-back c e f g = ap₂ state_of e f ∙ g

pub settle-done : (keys numbers pairs : List ℕ) {a b c d : Classes} → Becomes a b (started numbers (row_count keys) (state_in a))
    → Becomes b c (stated (row_count keys) (pairs_in pairs) (state_in b))
    → Becomes c d (rested_by keys (state_in c))
    → state_in d ≡ settled_by keys numbers pairs (state_in a)
settle-done keys numbers pairs e f g = g.so ∙ ap (rested_by keys) (f.so ∙ ap (stated (row_count keys) (pairs_in pairs)) e.so)

pub further-done : (keys : List ℕ) (x y : ℕ) {a b c : Classes} → Becomes a b (pair_joined (row_count keys) 6 x y 0 (state_in a)) → Becomes b c (rested_by keys (state_in b))
    → state_in c ≡ furthered_by keys x y (state_in a)
unfolding furthered added_pair
further-done keys x y e f = f.so ∙ ap (rested_by keys) e.so

pub ruleset mine = (rules, settle-done, further-done)
